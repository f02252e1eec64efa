-- A refusal as code makes it, and what is known past a test that leads to one.
use Rattle.std.specs.Prelude.{ℕ, ◌+◌, ◌<◌, ◌≡◌, Bool, true, false, not, List, ◌++◌, length}
use Rattle.std.proofs.Common.{sym, ap, ◌∙◌, length-append}
use Rattle.std.proofs.lemmas.Bool.{not-false}
use Rattle.path.specs.Geometry.{Granule, size_at, at_level}
use Rattle.path.specs.Numbers.{good_setup}
use Rattle.path.specs.Paths.{base_at}
use Rattle.path.specs.Laws.{level_some}
use Rattle.path.specs.declared.Setup.{Setup}
use Rattle.model.specs.Answers.{Answer, hole, pool, done}
use Rattle.model.specs.Calls.{good_pool}

pub refusing : {x y : Answer} {t s : Setup} (ws : List ℕ) (cut : ℕ) (list : List ℕ) → (x ≡ y) × (t ≡ s)
    → done x (pool t ws cut list) ≡ done y (pool s ws cut list)
refusing ws cut list e = λ i. done (e.0 i) (pool (e.1 i) ws cut list)

pub passed : {r b : Bool} → r ≡ b → not r ≡ false → b ≡ true
passed e n = sym e ∙ not-false _ n

-- the test of a pool's numbers, made of the lengths of its two runs
pub good_both :
    (G : Granule) (s : Setup) (first second list : List ℕ) {r : Bool} → r ≡ good_setup G s (length first) (length first + length second) (length list)
    → r ≡ good_pool G (pool s (first ++ second) (length first) list)
good_both G s first second list e = e ∙ ap (λ (n : ℕ). good_setup G s (length first) n (length list)) (sym (length-append first second))

-- the hole that code finds at a height
pub hole_known :
    (G : Granule) (a h : ℕ) {b s : ℕ} → h < G.most → b ≡ at_level G h (base_at G a h) → s ≡ at_level G h (size_at G h)
    → hole b s ≡ hole (base_at G a h) (size_at G h)
hole_known G a h l x y = rw (x ∙ level_some G l _, y ∙ level_some G l _)
