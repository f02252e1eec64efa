-- The audit: what a traversal from the root finds, and the rules of a sound pool.
use Rattle.std.specs.Prelude.{ℕ, zero, suc, ◌+◌, ◌-◌, Bool, true, false, cond, ◌&&◌, ◌||◌, not, List, [], ◌∷◌, ◌++◌, ltb, eqb, length, take}
use Rattle.laws.specs.Lists.{part, all_zero, distinct}
use Rattle.path.specs.Geometry.{Granule, entries, size_at}
use Rattle.path.specs.Areas.{Area, area_of, total, meets_area}
use Rattle.entry.specs.Words.{entry_at}
use Rattle.entry.specs.declared.Entry.{Entry}
use Rattle.entry.specs.declared.Entry.TheVariants.{Empty, Table, Frame, Damaged}
use Rattle.model.specs.Answers.{Mapping, mapping, Answer, audited, refused, Pool}
use Rattle.model.specs.Walk.{slot}
use Rattle.model.specs.Calls.{good_pool}

-- what is found in a part of the tree: whether every entry is sound; whether no table below the root is empty; the tables reached, in the order of
-- the walk; the mappings, in rising order of their addresses
pub record Found : Type 0 where
  pub ok : Bool
  pub full : Bool
  pub reached : List ℕ
  pub mappings : List Mapping

abbrev pub nothing : Bool → Found
nothing b = record { ok = b; full = true; reached = []; mappings = [] }

infixr 60 ◌⊕◌
abbrev pub ◌⊕◌ : Found → Found → Found
◌⊕◌ f g = record {
  ok = f.ok && g.ok;
  full = f.full && g.full;
  reached = f.reached ++ g.reached;
  mappings = f.mappings ++ g.mappings;
}

-- the words of table t
abbrev pub table_words : Granule → List ℕ → ℕ → List ℕ
table_words G ws t = part ws (slot G t 0) (entries G)

-- an entry of height h that stands for the addresses from v on; `below c v` is what is found in table c one level down
abbrev pub of_entry : Granule → ℕ → ℕ → (ℕ → ℕ → Found) → Entry → Found
of_entry G h v below Empty = nothing true
of_entry G h v below (Table c) = below c v
of_entry G h v below (Frame b k) = record { ok = true; full = true; reached = []; mappings = mapping v b (size_at G h) k ∷ [] }
of_entry G h v below Damaged = nothing false

-- entries with these words, the first of which stands for the addresses from v on
unfoldable pub of_entries : Granule → Area → ℕ → ℕ → (ℕ → ℕ → Found) → List ℕ → Found
of_entries G area h v below [] = nothing true
of_entries G area h v below (w ∷ ws) =
    of_entry G h v below (entry_at G area h w) ⊕ of_entries G area h (v + size_at G h) below ws

-- table t itself: reached, and not empty unless it is the root
abbrev pub of_visit : List ℕ → ℕ → Found
of_visit ws t = record { ok = true; full = eqb t 0 || not (all_zero ws); reached = t ∷ []; mappings = [] }

-- table t, whose entries have height h and whose first stands for the addresses from v on
unfoldable pub of_table : Granule → List ℕ → Area → ℕ → ℕ → ℕ → Found
of_table G ws area zero t v = of_visit (table_words G ws t) t ⊕ of_entries G area zero v (λ _ _. nothing false) (table_words G ws t)
of_table G ws area (suc h) t v =
    of_visit (table_words G ws t) t ⊕ of_entries G area (suc h) v (λ c u. of_table G ws area h c u) (table_words G ws t)

-- the whole tree
abbrev pub of_pool : Granule → Pool → Found
of_pool G p = of_table G p.words (area_of p.numbers) (p.numbers.levels - 1) 0 0

-- the free numbers
abbrev pub free_of : Pool → List ℕ
free_of p = take p.numbers.free p.list

-- each free number is in range and its table all zero
unfoldable pub free_sound : Granule → List ℕ → ℕ → List ℕ → Bool
free_sound G ws n [] = true
free_sound G ws n (t ∷ ts) = ltb t n && (all_zero (table_words G ws t) && free_sound G ws n ts)

-- no frame of these mappings shares a byte with the tables
unfoldable pub none_inside : Granule → Area → List Mapping → Bool
none_inside G area [] = true
none_inside G area (m ∷ L) = not (meets_area G area m.frame m.size) && none_inside G area L

-- the audit's rules: every reached entry is sound, no table below the root is empty and no frame shares a byte with the tables; no table is reached
-- twice, no free number stands twice or is reached; free numbers are in range and their tables all zero; free + reached are all
unfoldable pub sound_pool : Granule → Pool → Bool
sound_pool G p =
    let o = of_pool G p in
    (none_inside G (area_of p.numbers) o.mappings && (o.ok && o.full))
    && (distinct (o.reached ++ free_of p)
    && (free_sound G p.words (total (area_of p.numbers)) (free_of p)
    && eqb (length o.reached + p.numbers.free) (total (area_of p.numbers))))

unfoldable pub audit_w : Granule → Pool → Answer
audit_w G p =
    cond (good_pool G p)
    (cond (sound_pool G p) (audited (length (of_pool G p).reached) (length (of_pool G p).mappings)) (refused 8))
    (refused 1)
