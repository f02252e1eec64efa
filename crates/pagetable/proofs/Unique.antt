-- Two results of a call that meet its promise are equal, and so are the setups that they hand back, on a refusal too, and the lent memory.
use Rattle.std.specs.Prelude.{ℕ, ◌≡◌, List, Result, Ok, Err}
use Rattle.std.proofs.Math.Path.{refl, sym}
use Rattle.std.proofs.Common.{ap, ◌∙◌}
use Rattle.path.specs.declared.Setup.{Setup}
use Rattle.path.specs.Numbers.{no_setup}
use Rattle.model.specs.declared.Refusal.{Refusal}
use Rattle.model.specs.declared.Mapped.{Mapped}
use Rattle.model.specs.declared.Unmapped.{Unmapped}
use Rattle.model.specs.declared.RangeUnmapped.{RangeUnmapped}
use Rattle.model.specs.Answers.{Answer, Done, left, setup_after, says_add, says_map, says_unmap, says_unmap_range}
use Rattle.model.proofs.Unique.{added_unique as add_same, mapped_unique as map_same, unmapped_unique as unmap_same, range_unmapped_unique as range_same}
use Rattle.pagetable.specs.declared.Refused.{Refused}
use Rattle.pagetable.specs.Hands.{answer_in, handed_back, format_left, add_left, map_left, unmap_left, unmap_range_left}

-- the answer and the setup tell a result
told : {A : Type 0} (f : A → Setup) (x y : Result A Refused) → answer_in x ≡ answer_in y → handed_back f x ≡ handed_back f y → x ≡ y
told f (Ok x) (Ok y) e q = let k : x ≡ y = cc in ap Ok k
told f (Ok x) (Err r) e q = cc
told f (Err r) (Ok y) e q = cc
told f (Err r) (Err t) e q = let k : r.refusal ≡ t.refusal = cc in λ i. Err (record { refusal = k i; setup = q i })

-- the setup beside a refusal
given : {A : Type 0} → Result A Refused → Setup
given (Ok x) = no_setup
given (Err r) = r.setup

-- what is handed back is what the call did, given that setup
module _ {A : Type 0} (says : Result A Refusal → Answer) (f : A → Setup) where
  did : (x : Result A Refused) (a b l : List ℕ) → left (says (answer_in x)) (handed_back f x) a b l ≡ left (says (answer_in x)) (setup_after f (given x) (answer_in x)) a b l
  unfolding given
  did (Ok x) a b l = refl
  did (Err r) a b l = refl

  -- and equal answers of a call that was given any setups are equal results
  results :
      (x y : Result A Refused) (a b c d l m : List ℕ)
      → (left (says (answer_in x)) (setup_after f (given x) (answer_in x)) a b l ≡ left (says (answer_in y)) (setup_after f (given y) (answer_in y)) c d m
      → (answer_in x ≡ answer_in y) × ((a ≡ c) × (b ≡ d) × (l ≡ m)))
      → left (says (answer_in x)) (handed_back f x) a b l ≡ left (says (answer_in y)) (handed_back f y) c d m → (x ≡ y) × ((a ≡ c) × (b ≡ d) × (l ≡ m))
  results x y a b c d l m same e =
      let (k, n) = same (sym (did x a b l) ∙ (e ∙ did y c d m)) in (told f x y k (ap (λ (z : Done). z.after.numbers) e), n)

-- format answers as the adding call does
module _ (a b c d l m : List ℕ) where
  pub formatted_unique : (x y : Result Setup Refused) → format_left x a b l ≡ format_left y c d m → (x ≡ y) × ((a ≡ c) × (b ≡ d) × (l ≡ m))
  formatted_unique x y = results says_add (λ u. u) x y a b c d l m (add_same (given x) (given y) a b c d l m (answer_in x) (answer_in y))

  pub added_unique : (x y : Result Setup Refused) → add_left x a b l ≡ add_left y c d m → (x ≡ y) × ((a ≡ c) × (b ≡ d) × (l ≡ m))
  added_unique x y = results says_add (λ u. u) x y a b c d l m (add_same (given x) (given y) a b c d l m (answer_in x) (answer_in y))

  pub mapped_unique : (x y : Result Mapped Refused) → map_left x a b l ≡ map_left y c d m → (x ≡ y) × ((a ≡ c) × (b ≡ d) × (l ≡ m))
  mapped_unique x y = results says_map (λ t. t.setup) x y a b c d l m (map_same (given x) (given y) a b c d l m (answer_in x) (answer_in y))

  pub unmapped_unique : (x y : Result Unmapped Refused) → unmap_left x a b l ≡ unmap_left y c d m → (x ≡ y) × ((a ≡ c) × (b ≡ d) × (l ≡ m))
  unmapped_unique x y = results says_unmap (λ u. u.setup) x y a b c d l m (unmap_same (given x) (given y) a b c d l m (answer_in x) (answer_in y))

  pub range_unmapped_unique : (x y : Result RangeUnmapped Refused) → unmap_range_left x a b l ≡ unmap_range_left y c d m → (x ≡ y) × ((a ≡ c) × (b ≡ d) × (l ≡ m))
  range_unmapped_unique x y =
      results says_unmap_range (λ u. u.setup) x y a b c d l m (range_same (given x) (given y) a b c d l m (answer_in x) (answer_in y))
