-- What the public calls promise of a ledger: the clause `ledger` of their contracts.
use Rattle.std.specs.Prelude.{◌≡◌, false, List, [], ℕ}
use Rattle.path.specs.Geometry.{Granule, good_granule, granule_of}
use Rattle.path.specs.Areas.{Area}
use Rattle.path.specs.declared.Setup.{Setup}
use Rattle.model.specs.Answers.{Answer, formatted, refused, Pool, pool, Done, done}
use Rattle.model.specs.Adds.{lent}
use Rattle.model.specs.Ledger.{Ledger, ledger}
use Rattle.demand.specs.Holds.{Holds}
use Rattle.demand.specs.Demand3.{Ask, Call, format_c, add_c, ask_c, go_on, go_back, step_l}

-- for every ledger that the pool at entry holds, the answer is the ledger's, and the pool at exit holds the ledger after the call
abbrev pub ByLedger : Granule → Pool → Call → Done → Type 0
ByLedger G p c d =
    (A : Ledger) → Holds G p A → (d.answer ≡ (step_l G A c).answer) × Holds G d.after (step_l G A c).after

-- Format is handed no setup, and its granule is a number.
pub record FormatByLedger (number : ℕ) (ws : List ℕ) (cut : ℕ) (list : List ℕ) (levels : ℕ) (area : Area) (d : Done) : Type 0 where
  -- whatever the setup of that granule was, the ledger decides, and a refused format goes on with that setup
  pub goes_on : (s : Setup) → s.granule ≡ number
      → ByLedger (granule_of number) (pool s ws cut list) (format_c levels area) (go_on (pool s ws cut list) d d.answer)
  -- an accepted one leaves a pool of that granule without a mapping, whatever the memory was, the tables of another granule too
  pub fresh : d.answer ≡ formatted → Holds (granule_of number) d.after (ledger levels area [])
  -- a number that names no granule is refused with 1
  pub unnamed : good_granule number ≡ false → d.answer ≡ refused 1

-- an add is handed the memory that it is lent: whatever pool it was lent for, that pool's ledger decides, and after a refusal that pool goes on
abbrev pub AddByLedger : Granule → Pool → ℕ → ℕ → Done → Type 0
AddByLedger G p q m d =
    (p₀ : Pool) (second rest : List ℕ) → lent p₀ second rest ≡ p → ByLedger G p₀ (add_c q m second rest) (go_back p₀ d d.answer)

-- a question leaves the pool as it was
abbrev pub AskedByLedger : Granule → Pool → Ask → Answer → Type 0
AskedByLedger G p q a = ByLedger G p (ask_c q) (done a p)
