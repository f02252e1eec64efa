-- What the laws of proofs/AuditLaws.antt speak of.
use Rattle.std.specs.Prelude.{ℕ}
use mathlib.Core.List.{List}
use Rattle.path.specs.Geometry.{Granule}
use Rattle.path.specs.Areas.{Area}
use Rattle.model.specs.Audit.{Found, ◌⊕◌, table_words, of_entries, of_visit}

-- a table and what is below it, where `below c v` is found in table c one level down
abbrev pub node : Granule → List ℕ → Area → ℕ → (ℕ → ℕ → Found) → ℕ → ℕ → Found
node G ws area h below t v = of_visit (table_words G ws t) t ⊕ of_entries G area h v below (table_words G ws t)
