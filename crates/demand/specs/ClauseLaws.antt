-- The clause `whole` of a public call gives its clause `ledger`.
use Rattle.std.specs.Prelude.{◌≡◌, List, [], ℕ}
use Rattle.std.proofs.Common.{subst, sym, ap, ◌∙◌}
use Rattle.path.specs.Geometry.{Granule, Sane, granule_of}
use Rattle.path.specs.Areas.{Area}
use Rattle.path.specs.Laws.{granule_sane}
use Rattle.model.specs.Answers.{Answer, Pool, pool, Done, done}
use Rattle.model.specs.Calls.{format_n}
use Rattle.model.specs.Adds.{add_w}
use Rattle.model.proofs.GranuleLaws.{named, format_named, format_unnamed}
use Rattle.model.specs.Ledger.{ledger}
use Rattle.demand.specs.Holds.{Holds}
use Rattle.demand.specs.Demand3.{Ask, Call, format_c, add_c, ask_c, ask_w, go_on, go_back, step_w, step_l}
use Rattle.demand.specs.Theorem.{step_holds, format_demand}
use Rattle.demand.specs.Clauses.{ByLedger, FormatByLedger, AddByLedger, AskedByLedger}

module _ (G : Granule) (Z : Sane G) where
  -- a call that does what the definition says does what the ledger says
  pub by_ledger : (p : Pool) (c : Call) (d : Done) → d ≡ step_w G p c → ByLedger G p c d
  by_ledger p c d e A H =
      subst (λ (x : Done). (x.answer ≡ (step_l G A c).answer) × Holds G x.after (step_l G A c).after) (sym e) (step_holds G Z H c)

  pub add_by_ledger : (p : Pool) (q m : ℕ) (d : Done) → d ≡ add_w G p q m → AddByLedger G p q m d
  add_by_ledger p q m d e p₀ second rest l =
      by_ledger p₀ (add_c q m second rest) (go_back p₀ d d.answer)
      (ap (λ (x : Done). go_back p₀ x x.answer) (e ∙ ap (λ (r : Pool). add_w G r q m) (sym l)))

  pub asked_by_ledger : (p : Pool) (q : Ask) (a : Answer) → a ≡ ask_w G p q → AskedByLedger G p q a
  asked_by_ledger p q a e = by_ledger p (ask_c q) (done a p) (ap (λ (x : Answer). done x p) e)

-- format, with any number for its granule
pub format_by_ledger : (number : ℕ) (ws : List ℕ) (cut : ℕ) (list : List ℕ) (levels : ℕ) (area : Area) (d : Done) → d ≡ format_n number levels area ws cut list
    → FormatByLedger number ws cut list levels area d
format_by_ledger number ws cut list levels area d e = record {
  goes_on = λ s q A H. by_ledger (granule_of number) (granule_sane number) (pool s ws cut list) (format_c levels area) (go_on (pool s ws cut list) d d.answer)
      (ap (λ (x : Done). go_on (pool s ws cut list) x x.answer) (e ∙ format_named number levels area ws cut list (named number (sym q ∙ H.good.granule_is)))) A H;
  fresh = λ q. subst (λ (x : Done). Holds (granule_of number) x.after (ledger levels area [])) (sym e)
      ((format_demand number levels area ws cut list (sym (ap (λ (x : Done). x.answer) e) ∙ q) []).after 0).holds;
  unnamed = λ q. ap (λ (x : Done). x.answer) (e ∙ format_unnamed number levels area ws cut list q);
}
