-- What a look meets, by what its walk found; and counting words.
use Rattle.std.specs.Prelude.{ℕ, suc, ◌+◌, ◌-◌, ◌≤◌, ◌<◌, ◌≡◌, refl, Bool, true, false, cond, not, eqb, List, length, get_or, set, count_by}
use Rattle.std.proofs.Common.{ap, sym, ◌∙◌, arith, true≢false}
use Rattle.std.proofs.lemmas.Bool.{false≢true}
use Rattle.std.proofs.lemmas.List.Sums.{count_by-le-length}
use Rattle.std.proofs.lemmas.List.Recursion.{is_count_by}
use Rattle.entry.specs.declared.Entry.TheVariants.{Empty, Frame}
use Rattle.model.specs.declared.Walked.{Walked}
use Rattle.model.specs.Walk.{stop, at_height}
use Rattle.sweeps.specs.Parts.{Meets, in_use, Lowered, lowered, lower_from}
use Rattle.sweeps.specs.Counting.{lower_stop, lower_more, lower_end}

pub meets_hole : {o : Walked} {way : List ℕ} {h : ℕ} → stop Empty h way ≡ o → Meets o false h way
meets_hole e = record {
  framed = λ y. absurd (false≢true y);
  empty = λ y. sym (ap (λ (o : Walked). o.entry) e);
  left_is = sym (ap (λ (o : Walked). o.left) e);
  tables_are = sym (ap (λ (o : Walked). o.tables) e);
}

pub meets_frame : {o : Walked} {way : List ℕ} {b k h : ℕ} → stop (Frame b k) h way ≡ o → Meets o true h way
meets_frame {b = b} {k = k} e = record {
  framed = λ y. (b, k, sym (ap (λ (o : Walked). o.entry) e));
  empty = λ y. absurd (true≢false y);
  left_is = sym (ap (λ (o : Walked). o.left) e);
  tables_are = sym (ap (λ (o : Walked). o.tables) e);
}

-- the words in use, counted
pub use_counted : (l : List ℕ) → in_use l ≡ count_by (λ x. not (eqb x 0)) l
unfolding in_use
use_counted = is_count_by in_use (λ x. not (eqb x 0)) refl (λ x l. go (eqb x 0) (in_use l))
  where
    go : (y : Bool) (n : ℕ) → cond y 0 1 + n ≡ cond (not y) (1 + n) n
    go true n = omega arith
    go false n = refl

pub use_most : (l : List ℕ) → in_use l ≤ length l
use_most l = omega (arith, use_counted l, count_by-le-length (λ x. not (eqb x 0)) l)

-- ---- lowering, from table to table

-- the whole is the tables passed and what is left
abbrev pub Lowering : List ℕ → List ℕ → ℕ → ℕ → List ℕ → ℕ → Type 0
Lowering C₀ way left top C h = lower_from C₀ way left (top - left) ≡ lowered (h - left + (lower_from C way h (top - h)).freed) (lower_from C way h (top - h)).counts

module _ (C₀ way C : List ℕ) (left top h : ℕ) (K : Lowering C₀ way left top C h) (low : left ≤ h) where
  pub lowering_stops : {D : List ℕ} {n m : ℕ} → h < top → n ≡ get_or C (at_height way h) 0 → 1 < n → m ≡ n - 1 → D ≡ set C (at_height way h) m → lowered (h - left) D ≡ lower_from C₀ way left (top - left)
  lowering_stops {D} l e g f d =
      let s : lower_from C way h (top - h) ≡ lowered 0 (set C (at_height way h) (get_or C (at_height way h) 0 - 1)) = lower_stop way C h (top - h) (omega arith) (omega arith) in
      let q : set C (at_height way h) (get_or C (at_height way h) 0 - 1) ≡ D = ap (set C (at_height way h)) (omega arith) ∙ sym d in
      sym (K ∙ ap (λ (r : Lowered). lowered (h - left + r.freed) r.counts) (s ∙ ap (lowered 0) q) ∙ ap (λ (x : ℕ). lowered x D) (omega arith))

  pub lowering_more : {D : List ℕ} {n m : ℕ} → h < top → n ≡ get_or C (at_height way h) 0 → n ≤ 1 → m ≡ n - 1 → D ≡ set C (at_height way h) m → Lowering C₀ way left top D (h + 1)
  lowering_more {D} l e g f d =
      let s = lower_more way C h (top - h) (omega arith) (omega arith) in
      let q : set C (at_height way h) (get_or C (at_height way h) 0 - 1) ≡ D = ap (set C (at_height way h)) (omega arith) ∙ sym d in
      let z : top - h - 1 ≡ top - (h + 1) = omega arith in
      K ∙ ap (λ (r : Lowered). lowered (h - left + r.freed) r.counts) s
      ∙ ap (λ (c : List ℕ). lowered (h - left + suc (lower_from c way (h + 1) (top - h - 1)).freed) (lower_from c way (h + 1) (top - h - 1)).counts) q
      ∙ ap (λ (d : ℕ). lowered (h - left + suc (lower_from D way (h + 1) d).freed) (lower_from D way (h + 1) d).counts) z
      ∙ ap (λ (x : ℕ). lowered x (lower_from D way (h + 1) (top - (h + 1))).counts) (omega arith)

  pub lowering_ends : top ≤ h → h ≤ top → lowered (top - left) C ≡ lower_from C₀ way left (top - left)
  lowering_ends l g =
      sym (K ∙ ap (λ (r : Lowered). lowered (h - left + r.freed) r.counts) (lower_end way C h (top - h) (omega arith)) ∙ ap (λ (x : ℕ). lowered x C) (omega arith))
