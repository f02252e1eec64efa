-- `adds::append`: after i turns the first i places of the part count down from n + m - 1.
use Rattle.std.proofs.Common.{ℕ, ◌+◌, ◌-◌, ◌≤◌, List, ◌++◌, ◌≡◌, ap, ◌∙◌, length, take, drop, arith}
use Rattle.std.proofs.Math.ListN.{set, drop_of_length-le, length-drop}
use Rattle.std.proofs.Math.Seq.{drop-drop, length-take-le}
use mathlib.Core.Path.{ap₂}
use mathlib.Core.List.{[], append-nil}
use Rattle.laws.specs.ListLaws.{down_more}
use Rattle.laws.specs.Lists.{down}
use Rattle.model.specs.Adds.{appended}
use Rattle.adds.proofs.append.Goals as goal

-- the part has m places
long : (m f : ℕ) (list : List ℕ) → f + m ≤ length list → length (take (f + m - f) (drop f list)) ≡ m
long m f list h = length-take-le (f + m - f) (drop f list) (omega (arith, length-drop f list)) ∙ omega arith

-- the part put back, once each of its places has its number
whole : (n m f i : ℕ) (list part : List ℕ) → f + m ≤ length list → i ≡ m → part ≡ take i (down (n + m)) ++ drop i (take (f + m - f) (drop f list))
    → take f list ++ (part ++ drop (f + m - f) (drop f list)) ≡ appended n m f list
unfolding appended
whole n m f i list part h e p =
    let none : drop i (take (f + m - f) (drop f list)) ≡ [] = drop_of_length-le _ {i = i} (omega (arith, long m f list h)) in
    let rest : drop (f + m - f) (drop f list) ≡ drop (f + m) list = drop-drop (f + m - f) f list ∙ ap (λ (k : ℕ). drop k list) (omega arith) in
    let filled : part ≡ take m (down (n + m)) = p ∙ ap₂ ◌++◌ (ap (λ (k : ℕ). take k (down (n + m))) e) none ∙ append-nil _ in
    ap₂ (λ (x y : List ℕ). take f list ++ (x ++ y)) filled rest

pub loop-i-preserved : goal.loop-i-preserved
loop-i-preserved c =
    let a = c.args in
    let i = c.loop-i.i in
    let part : List ℕ = take (a.f + a.m - a.f) (drop a.f a.list.now) in
    let k : length part ≡ a.m = long a.m a.f a.list.now c.requires.1 in
    ap (λ (x : List ℕ). set x i (a.n + a.m - 1 - i)) c.loop-i.invariant ∙ down_more (a.n + a.m) i part (omega arith) (omega arith)

pub returns : goal.returns
returns c =
    let a = c.args in
    whole a.n a.m a.f c.loop-i.i a.list.now c.loop-i.number-items c.requires.1 (omega (arith, long a.m a.f a.list.now c.requires.1)) c.loop-i.invariant
