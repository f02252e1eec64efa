-- `rangeunmaps::clear_used`: the words up to an index are 0.
use borrow.Author.Count.{below_more}
use Rattle.std.proofs.Common.{ℕ, ◌≡◌, ◌<◌, ◌+◌, ◌-◌, ◌++◌, ap, sym, ◌∙◌, List, length, take, drop, set, get_or, replicate, refl, arith, ext_get_or, length-take, length-drop, get_or-set_same, get_or-set_other}
use Rattle.std.proofs.lemmas.List.{get_or-replicate, length-replicate}
use Rattle.laws.specs.ListLaws.{zeroed_none, zeroed_is}
use Rattle.rangeunmaps.proofs.clear_used.Goals as goal
use Rattle.rangeunmaps.proofs.clear_used.Goals.{then-start-n-via-then-start-n, then-start-n-via-else-start-n+then-n-start, then-w-ne0, else-w-ne0}

-- words that are all 0
all_zeros : (l : List ℕ) (k : ℕ) → length l ≡ k → ((i : ℕ) → i < k → get_or l i 0 ≡ 0) → l ≡ replicate k 0
all_zeros l k e f = ext_get_or 0 l (replicate k 0) (e ∙ sym (length-replicate k 0)) (λ i m. f i (omega arith) ∙ sym (get_or-replicate k i 0 0 (omega arith)))

-- one more
zeros_more : (l : List ℕ) (i v : ℕ) {r : List ℕ} → i < length l → v ≡ 0 → r ≡ set l i v → ((k : ℕ) → k < i → get_or l k 0 ≡ 0) → (k : ℕ) → k < i + 1 → get_or r k 0 ≡ 0
zeros_more l i v {r} m z e f =
    let zero : ℕ → Type 0 = λ k. get_or r k 0 ≡ 0 in
    below_more zero i (λ k n. ap (λ (y : List ℕ). get_or y k 0) e ∙ get_or-set_other l i k v 0 (omega arith) ∙ f k n) (ap (λ (y : List ℕ). get_or y i 0) e ∙ get_or-set_same l i v 0 m ∙ z)

pub returns-then-start-n : goal.returns-then-start-n
returns-then-start-n c =
    let a = c.args in
    elim c.then-start-n.branch [
      | then-start-n-via-then-start-n w ↦ sym (zeroed_none a.run.now a.start a.count (omega (arith, w.if-start-n.true)))
      | then-start-n-via-else-start-n+then-n-start w ↦ sym (zeroed_none a.run.now a.start a.count (omega (arith, w.if-n-start.true, w.if-start-n.false)))
    ]

pub loop-w-preserved : goal.loop-w-preserved
loop-w-preserved c =
    let l = c.loop-w in
    elim c.if-w-ne0.branch [
      | then-w-ne0 w ↦ zeros_more l.w-items l.w-index 0 (omega arith) refl w.w-items-is l.invariant
      | else-w-ne0 w ↦ zeros_more l.w-items l.w-index (get_or l.w-items l.w-index 0) (omega arith) w.if-w-ne0.false w.w-items-is l.invariant
    ]

pub returns : goal.returns
returns c =
    let a = c.args in
    let l = c.loop-w in
    let k : a.start + a.count - a.start ≡ a.count = omega arith in
    let long : length (take (a.start + a.count - a.start) (drop a.start a.run.now)) ≡ a.count = omega (arith, length-take {A = ℕ}, length-drop {A = ℕ}) in
    let z : l.w-items ≡ replicate a.count 0 = all_zeros l.w-items a.count (l.auto.w-items ∙ long) (λ i m. l.invariant i (omega (arith, long))) in
    (λ i. take a.start a.run.now ++ (z i ++ drop (k i) (drop a.start a.run.now))) ∙ sym (zeroed_is a.run.now a.start a.count (omega arith))
