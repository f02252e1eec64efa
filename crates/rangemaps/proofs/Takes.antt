-- Taking tables from the end of the free list, where those that may not be taken are marked.
use Prim.Native.Nat.{ℕ, ◌+◌, ◌-◌, ◌≤◌, ◌<◌}
use mathlib.Core.Path.{◌≡◌, sym, ap, ◌∙◌}
use mathlib.Core.Logic.{◌≢◌, ◌⊎◌, ⊎_elim}
use mathlib.Core.Bool.{true, false, ◌||◌, not}
use mathlib.Core.List.{List, ◌∷◌}
use native.Mathlib.Nat.{sub-zero}
use native.Mathlib.Decide.{ℕ_discrete}
use native.Mathlib.Omega.{arith}
use borrow.Author.Tests.{eq-eqb, ne_eqb}
use lib.Dec.{eqb}
use lib.ListN.{length, get_or, set}
use lib.Seq.{get_or-set_same, get_or-set_other}
use Rattle.laws.specs.Lists.{among}
use Rattle.model.specs.Writes.{may_take}
use Rattle.maps.proofs.Takes.{take_none, take_out, take_seen, take_more, take_end}
use Rattle.rangemaps.specs.Surveys.{MarksOf}

module _ (list : List ℕ) (n : ℕ) where
  -- i tables passed: they are marked with those before, and what is left to test answers for all
  pub record Taking (seen : List ℕ) (free need : ℕ) (M : List ℕ) (i : ℕ) : Type 0 where
    pub few : i ≤ need
    pub now : List ℕ
    pub marks : MarksOf now M
    pub same : may_take list n seen free need ≡ may_take list n now (free - i) (need - i)

  pub taking_start : (seen : List ℕ) (free need : ℕ) (M : List ℕ) → MarksOf seen M → Taking seen free need M 0
  taking_start seen free need M m = record { few = omega arith; now = seen; marks = m; same = rw (sub-zero free, sub-zero need) }

  module _ {seen : List ℕ} {free need : ℕ} {M : List ℕ} {i : ℕ} (T : Taking seen free need M i) where
    pub taking_end : need ≤ i → true ≡ may_take list n seen free need
    taking_end h = sym (T.same ∙ take_end list n T.now (free - i) (need - i) (omega arith))

    module _ {c : ℕ} (h : i < need) (e : c ≡ get_or list (free - 1 - i) 0) where
      at_end : c ≡ get_or list (free - i - 1) 0
      at_end = e ∙ ap (λ (j : ℕ). get_or list j 0) (omega arith)

      pub taking_refused : (c ≡ 0) ⊎ ((c ≢ 0) × (n ≤ c)) → false ≡ may_take list n seen free need
      taking_refused r =
          ⊎_elim (λ z. sym (T.same ∙ take_none list n T.now (free - i) (need - i) (omega arith) at_end z))
          (λ q. sym (T.same ∙ take_out list n T.now (free - i) (need - i) (omega arith) at_end (omega arith) q.1)) r

      module _ (p : c ≢ 0) where
        module _ (q : c < n) where
          pub taking_marked : get_or M c 0 ≢ 0 → false ≡ may_take list n seen free need
          taking_marked r =
              sym (T.same ∙ take_seen list n T.now (free - i) (need - i) (omega arith) at_end (omega arith) q (T.marks c p ∙ rw (ne_eqb _ _ r)))

          pub taking_next : n ≤ length M → get_or M c 0 ≡ 0 → Taking seen free need (set M c 1) (i + 1)
          unfolding among
          taking_next long r = record {
            few = omega arith;
            now = c ∷ T.now;
            marks = λ t f. at t f (ℕ_discrete c t);
            same =
                T.same
                ∙ take_more list n T.now (free - i) (need - i) (omega arith) at_end (omega arith) q (T.marks c p ∙ rw (eq-eqb _ _ r))
                ∙ (λ j. may_take list n (c ∷ T.now) (one_less free j) (one_less need j));
          }
            where
              one_less : (k : ℕ) → k - i - 1 ≡ k - (i + 1)
              one_less k = omega arith

              at : (t : ℕ) → t ≢ 0 → Dec (c ≡ t) → (eqb c t || among t T.now) ≡ not (eqb (get_or (set M c 1) t 0) 0)
              at t f (yes z) = rw (eq-eqb c t z) (sym (ap (λ (x : ℕ). not (eqb x 0)) (ap (λ (x : ℕ). get_or (set M c 1) x 0) (sym z) ∙ get_or-set_same M c 1 0 (omega arith))))
              at t f (no z) = rw (ne_eqb c t z) (T.marks t f ∙ sym (ap (λ (x : ℕ). not (eqb x 0)) (get_or-set_other M c t 1 0 (λ y. z (sym y)))))
