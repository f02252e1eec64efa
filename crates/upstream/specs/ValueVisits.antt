-- What the laws of proofs/ValueVisits.antt speak of.
use Rattle.std.specs.Prelude.{◌≡◌, [], ◌∷◌}
use Rattle.upstream.specs.Values.{NodeEntry, Node, Frame, Empty, Path}

abbrev pub Leads : Path → NodeEntry → NodeEntry → Type 0
Leads [] e y = e ≡ y
Leads (i ∷ p) Empty y = ⊥
Leads (i ∷ p) (Frame x) y = ⊥
Leads (i ∷ p) (Node k f) y = Leads p (f i) y
