-- Taking tables from the end of the free list.
use Prim.Native.Nat.{ℕ, zero, suc, ◌+◌, ◌-◌, ◌≤◌, ◌<◌}
use mathlib.Core.Path.{◌≡◌, refl, sym, ap, ◌∙◌}
use mathlib.Core.Logic.{◌≢◌}
use mathlib.Core.Bool.{Bool, true, false, ◌&&◌, ◌||◌, not, or-true, or_assoc}
use mathlib.Core.List.{List, [], ◌∷◌, ◌++◌}
use native.Mathlib.Nat.{sub-zero}
use native.Mathlib.Numerals.{sub-one}
use native.Mathlib.Decide.{ℕ_discrete}
use native.Mathlib.Omega.{arith}
use borrow.Author.Tests.{lt-ltb, le-ltb, ne_eqb}
use lib.Dec.{eqb, ltb}
use lib.ListN.{length, get_or, set, length-set}
use lib.Seq.{get_or-set_other}
use Rattle.laws.specs.Lists.{among, all_zero}
use Rattle.laws.specs.ListLaws.{all_zero_at, among_append, among_set}
use Rattle.model.specs.Writes.{may_take}

module _ (list : List ℕ) (n : ℕ) where
  -- the table at the end of f free ones
  abbrev last : ℕ → ℕ
  last f = get_or list (f - 1) 0

  abbrev tests : List ℕ → ℕ → ℕ → Bool
  tests seen f k = ltb 0 (last f) && (ltb (last f) n && (not (among (last f) seen) && may_take list n (last f ∷ seen) (f - 1) k))

  take_step : (seen : List ℕ) (f k : ℕ) → 0 < k → may_take list n seen f k ≡ tests seen f (k - 1)
  unfolding may_take
  take_step seen f zero h = absurd (omega arith)
  take_step seen f (suc k) h = ap (tests seen f) (sym (sub-one (suc k)))

  -- only numbers above 0 count among those seen
  take_same : (s u : List ℕ) → ((x : ℕ) → 0 < x → among x s ≡ among x u) → (f k : ℕ) → may_take list n s f k ≡ may_take list n u f k
  unfolding may_take among
  take_same s u e f zero = refl
  take_same s u e f (suc k) =
      go (last f) (ℕ_discrete (last f) 0) (take_same (last f ∷ s) (last f ∷ u) (λ x h. ap (λ (b : Bool). eqb (last f) x || b) (e x h)) (f - 1) k)
    where
      go : (c : ℕ) → Dec (c ≡ 0) → {p q : Bool} → p ≡ q
          → (ltb 0 c && (ltb c n && (not (among c s) && p))) ≡ (ltb 0 c && (ltb c n && (not (among c u) && q)))
      go c (yes z) {p} {q} r =
          ap (λ (b : Bool). b && (ltb c n && (not (among c s) && p))) (le-ltb 0 c (omega arith))
          ∙ sym (ap (λ (b : Bool). b && (ltb c n && (not (among c u) && q))) (le-ltb 0 c (omega arith)))
      go c (no d) {p} {q} r = λ i. ltb 0 c && (ltb c n && (not (e c (omega arith) i) && r i))

  -- at the first step that is refused, or past the last
  module _ (seen : List ℕ) {c : ℕ} (f k : ℕ) (h : 0 < k) (e : c ≡ last f) where
    pub take_none : c ≡ 0 → may_take list n seen f k ≡ false
    take_none z = take_step seen f k h ∙ rw (← e, z)

    pub take_out : 0 < c → n ≤ c → may_take list n seen f k ≡ false
    take_out p q = take_step seen f k h ∙ rw (← e, lt-ltb 0 c p, le-ltb c n q)

    pub take_seen : 0 < c → c < n → among c seen ≡ true → may_take list n seen f k ≡ false
    take_seen p q r = take_step seen f k h ∙ rw (← e, lt-ltb 0 c p, lt-ltb c n q, r)

    pub take_more : 0 < c → c < n → among c seen ≡ false → may_take list n seen f k ≡ may_take list n (c ∷ seen) (f - 1) (k - 1)
    take_more p q r = take_step seen f k h ∙ rw (← e, lt-ltb 0 c p, lt-ltb c n q, r)

  pub take_end : (seen : List ℕ) (f k : ℕ) → k ≡ 0 → may_take list n seen f k ≡ true
  unfolding may_take
  take_end seen f k e = rw e

  -- The loop: `taken` holds the i tables that passed, and zeros; what is left to test answers for all.
  pub record Taking (way : List ℕ) (free need : ℕ) (taken : List ℕ) (i : ℕ) : Type 0 where
    pub long : length taken ≡ 4
    pub rest : (k : ℕ) → i ≤ k → get_or taken k 0 ≡ 0
    pub same : may_take list n way free need ≡ may_take list n (taken ++ way) (free - i) (need - i)

  pub taking_start : (way : List ℕ) (free need : ℕ) → Taking way free need (0 ∷ 0 ∷ 0 ∷ 0 ∷ []) 0
  unfolding among all_zero
  taking_start way free need = record {
    long = refl;
    rest = λ k h. all_zero_at (0 ∷ 0 ∷ 0 ∷ 0 ∷ []) refl k;
    same = rw (sub-zero free, sub-zero need) (take_same way (0 ∷ 0 ∷ 0 ∷ 0 ∷ way) (λ x h. sym (rw (ne_eqb 0 x (λ e. omega arith)))) free need);
  }

  module _ {way : List ℕ} {free need : ℕ} {taken : List ℕ} {i : ℕ} (T : Taking way free need taken i) where
    pub taking_end : need ≤ i → true ≡ may_take list n way free need
    taking_end h = sym (T.same ∙ take_end (taken ++ way) (free - i) (need - i) (omega arith))

    -- the table that is next
    module _ {c : ℕ} (h : i < need) (e : c ≡ get_or list (free - 1 - i) 0) where
      at_end : c ≡ last (free - i)
      at_end = e ∙ ap (λ (j : ℕ). get_or list j 0) (omega arith)

      pub taking_none : c ≡ 0 → false ≡ may_take list n way free need
      taking_none z = sym (T.same ∙ take_none (taken ++ way) (free - i) (need - i) (omega arith) at_end z)

      module _ (p : c ≢ 0) where
        pub taking_out : n ≤ c → false ≡ may_take list n way free need
        taking_out q = sym (T.same ∙ take_out (taken ++ way) (free - i) (need - i) (omega arith) at_end (omega arith) q)

        module _ (q : c < n) where
          pub taking_way : among c way ≡ true → false ≡ may_take list n way free need
          taking_way r =
              let seen : among c (taken ++ way) ≡ true = among_append c taken way ∙ rw r (or-true (among c taken)) in
              sym (T.same ∙ take_seen (taken ++ way) (free - i) (need - i) (omega arith) at_end (omega arith) q seen)

          pub taking_twice : among c taken ≡ true → false ≡ may_take list n way free need
          taking_twice r =
              let seen : among c (taken ++ way) ≡ true = among_append c taken way ∙ rw r in
              sym (T.same ∙ take_seen (taken ++ way) (free - i) (need - i) (omega arith) at_end (omega arith) q seen)

          pub taking_next : need ≤ 4 → among c way ≡ false → among c taken ≡ false → Taking way free need (set taken i c) (i + 1)
          unfolding among
          taking_next m r s = record {
            long = length-set taken i c ∙ T.long;
            rest = λ k l. get_or-set_other taken i k c 0 (λ z. omega arith) ∙ T.rest k (omega arith);
            same =
                T.same
                ∙ take_more (taken ++ way) (free - i) (need - i) (omega arith) at_end (omega arith) q unseen
                ∙ take_same (c ∷ taken ++ way) (set taken i c ++ way) same_seen (free - i - 1) (need - i - 1)
                ∙ (λ j. may_take list n (set taken i c ++ way) (one_less free j) (one_less need j));
          }
            where
              unseen : among c (taken ++ way) ≡ false
              unseen = among_append c taken way ∙ rw (r, s)

              one_less : (k : ℕ) → k - i - 1 ≡ k - (i + 1)
              one_less k = omega arith

              same_seen : (x : ℕ) → 0 < x → (eqb c x || among x (taken ++ way)) ≡ among x (set taken i c ++ way)
              same_seen x l =
                  ap (λ (b : Bool). eqb c x || b) (among_append x taken way)
                  ∙ sym (or_assoc (eqb c x) (among x taken) (among x way))
                  ∙ ap (λ (b : Bool). b || among x way) (sym (among_set x taken i c l (omega (arith, T.long)) (T.rest i (omega arith))))
                  ∙ sym (among_append x (set taken i c) way)
