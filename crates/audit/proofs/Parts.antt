-- A check of parts of the tree, one after the other.
use Rattle.std.proofs.Common.{◌≡◌, ℕ, ◌+◌, ◌^◌, ◌<◌, Bool, true, false, cond, not, ◌&&◌, ◌||◌, List, [], ◌∷◌, ◌++◌, length, get_or, set, Option, None, sym, refl, ap, ◌∙◌, ap₂, arith, length-append}
use mathlib.Core.Bool.{and_assoc}
use Rattle.path.specs.Geometry.{Granule}
use Rattle.path.specs.Areas.{Area, meets_area}
use Rattle.model.specs.Answers.{Mapping}
use Rattle.model.specs.Audit.{Found, ◌⊕◌, none_inside}
use Rattle.audit.specs.Checks.{kept_in, Seen, seen, Marked, clash, marks, mark, walked, counted, Ends, Answers}
use Rattle.audit.specs.declared.Look.{Look}
use Rattle.model.specs.declared.Counts.{Counts}

-- ---- two parts together

infixr 60 ◌⊞◌
abbrev pub ◌⊞◌ : Seen → Seen → Seen
◌⊞◌ F G = record { ok = F.ok && G.ok; reached = F.reached ++ G.reached; count = F.count + G.count }

abbrev pub unseen : Seen
unseen = record { ok = true; reached = []; count = 0 }

pub unseen-⊞ : (F : Seen) → unseen ⊞ F ≡ F
unseen-⊞ F = let z : 0 + F.count ≡ F.count = omega arith in rw z

-- no frame of two lists
inside_append : (G : Granule) (area : Area) (a b : List Mapping) → none_inside G area (a ++ b) ≡ (none_inside G area a && none_inside G area b)
unfolding none_inside
inside_append G area [] b = refl
inside_append G area (m ∷ a) b =
    ap (λ (x : Bool). not (meets_area G area m.frame m.size) && x) (inside_append G area a b)
    ∙ sym (and_assoc (not (meets_area G area m.frame m.size)) (none_inside G area a) (none_inside G area b))

pub seen-⊕ : (G : Granule) (look : Look) (F H : Found) → seen G look (F ⊕ H) ≡ seen G look F ⊞ seen G look H
seen-⊕ G look F H =
    rw (
      length-append F.mappings H.mappings,
      inside_append G (kept_in look) F.mappings H.mappings,
      either F.full H.full look.bare,
      in_pairs F.ok H.ok (F.full || look.bare) (H.full || look.bare),
      in_pairs (none_inside G (kept_in look) F.mappings) (none_inside G (kept_in look) H.mappings) (F.ok && (F.full || look.bare)) (H.ok && (H.full || look.bare)),
    )
  where
    either : (a b c : Bool) → ((a && b) || c) ≡ ((a || c) && (b || c))
    either true b c = refl
    either false true true = refl
    either false true false = refl
    either false false true = refl
    either false false false = refl

    in_pairs : (a b c d : Bool) → ((a && b) && (c && d)) ≡ ((a && c) && (b && d))
    in_pairs true true c d = refl
    in_pairs true false true d = refl
    in_pairs true false false d = refl
    in_pairs false b c d = refl

-- ---- marks

abbrev pub then : Marked → (List Bool → Marked) → Marked
then clash f = clash
then (marks M) f = f M

pub mark_append : (M : List Bool) (a b : List ℕ) → mark M (a ++ b) ≡ then (mark M a) (λ N. mark N b)
unfolding mark
mark_append M [] b = refl
mark_append M (t ∷ a) b = go (not (get_or M t false)) (mark_append (set M t true) a b)
  where
    go : (q : Bool) → mark (set M t true) (a ++ b) ≡ then (mark (set M t true) a) (λ N. mark N b)
        → cond q (mark (set M t true) (a ++ b)) clash ≡ then (cond q (mark (set M t true) a) clash) (λ N. mark N b)
    go true h = h
    go false h = refl

pub walked-⊞ : (F G : Seen) (M : List Bool) → walked (F ⊞ G) M ≡ then (walked F M) (walked G)
walked-⊞ F G M = go F.ok G.ok
  where
    stop : (m : Marked) → clash ≡ then m (λ N. clash)
    stop clash = refl
    stop (marks N) = refl

    go : (p q : Bool) → cond (p && q) (mark M (F.reached ++ G.reached)) clash ≡ then (cond p (mark M F.reached) clash) (λ N. cond q (mark N G.reached) clash)
    go true true = mark_append M F.reached G.reached
    go true false = stop (mark M F.reached)
    go false q = refl

-- ---- answers

-- a check of a part, after a tables and b mappings were counted
unfoldable pub Goes : Seen → List Bool → ℕ → ℕ → Option Counts → List Bool → Type 0
Goes F M a b r N = Ends (walked F M) (a + length F.reached) (b + F.count) r N

-- where a check ended
pub ended : (F : Seen) (M N : List Bool) (x y : ℕ) → Answers F M (counted x y) N → (walked F M ≡ marks N) × (x ≡ length F.reached) × (y ≡ F.count)
unfolding Answers
ended F M N x y h = go (walked F M) refl h
  where
    go : (m : Marked) → walked F M ≡ m → Ends m (length F.reached) F.count (counted x y) N → (walked F M ≡ marks N) × (x ≡ length F.reached) × (y ≡ F.count)
    go clash e h = absurd (let z : ◌≡◌ {A = ℕ} 0 1 = cc in omega arith)
    go (marks K) e h =
        let same : ◌≡◌ {A = Counts} (record { tables = x; mappings = y }) (record { tables = length F.reached; mappings = F.count }) = cc h.0 in
        (e ∙ ap marks (sym h.1), ap (λ (c : Counts). c.tables) same, ap (λ (c : Counts). c.mappings) same)

pub clashed : (F : Seen) (M N : List Bool) → Answers F M None N → walked F M ≡ clash
unfolding Answers
clashed F M N h = go (walked F M) refl h
  where
    go : (m : Marked) → walked F M ≡ m → Ends m (length F.reached) F.count None N → walked F M ≡ clash
    go clash e h = e
    go (marks K) e h = absurd (let z : ◌≡◌ {A = ℕ} 0 1 = cc h.0 in omega arith)

module _ (F G : Seen) (M : List Bool) (a b : ℕ) where
  -- the first part is damaged, and so is the whole
  pub goes_bad : (N K : List Bool) → Answers F M None N → Goes (F ⊞ G) M a b None K
  unfolding Goes
  goes_bad N K h = rw (walked-⊞ F G M, clashed F M N h)

  -- the first part is sound, and the second goes on from there
  pub goes_good : (x y : ℕ) (N : List Bool) → Answers F M (counted x y) N → (r : Option Counts) (K : List Bool) → Goes G N (a + x) (b + y) r K → Goes (F ⊞ G) M a b r K
  unfolding Goes
  goes_good x y N h r K k =
      let (e, p, q) = ended F M N x y h in
      let i : a + x + length G.reached ≡ a + length (F.reached ++ G.reached) = rw length-append (omega arith) in
      let j : b + y + G.count ≡ b + (F.count + G.count) = omega arith in
      rw (walked-⊞ F G M, e, ← i, ← j) k

pub goes_end : (M : List Bool) (a b : ℕ) → Goes unseen M a b (counted a b) M
unfolding Goes mark
goes_end M a b = (ap₂ counted (omega arith) (omega arith), refl)

pub goes_answers : (F : Seen) (M : List Bool) (r : Option Counts) (N : List Bool) → Goes F M 0 0 r N → Answers F M r N
unfolding Goes Answers
goes_answers F M r N h =
    let i : 0 + length F.reached ≡ length F.reached = omega arith in
    let j : 0 + F.count ≡ F.count = omega arith in
    rw (← i, ← j) h

-- ---- a walk through parts: what is left answers for all

-- the counts stay small
pub record Room (F : Seen) (a b : ℕ) : Type 0 where
  pub few : a + length F.reached < 2 ^ 64
  pub some_more : b + F.count < 2 ^ 64

pub record Carried (all : Seen) (M₀ : List Bool) (a₀ b₀ : ℕ) (rest : Seen) (M : List Bool) (a b : ℕ) : Type 0 where
  pub long : length M ≡ length M₀
  pub room : Room rest a b
  pub back : (r : Option Counts) (N : List Bool) → Goes rest M a b r N → Goes all M₀ a₀ b₀ r N

pub carried_start : (all : Seen) (M : List Bool) (a b : ℕ) → Room all a b → Carried all M a b all M a b
carried_start all M a b m = record { long = refl; room = m; back = λ r N h. h }

module _ {all : Seen} {M₀ : List Bool} {a₀ b₀ : ℕ} {rest : Seen} {M : List Bool} {a b : ℕ} (k : Carried all M₀ a₀ b₀ rest M a b)
    (F G : Seen) (e : rest ≡ F ⊞ G) where
  room_both : Room (F ⊞ G) a b
  room_both = rw e at k.room

  pub carried_bad : (N K : List Bool) → Answers F M None N → Goes all M₀ a₀ b₀ None K
  carried_bad N K h = k.back None K (rw e (goes_bad F G M a b N K h))

  module _ (x y : ℕ) (N : List Bool) (h : Answers F M (counted x y) N) where
    pub carried_few : (a + x < 2 ^ 64) × (b + y < 2 ^ 64)
    carried_few =
        let (_, p, q) = ended F M N x y h in
        let l = simp length-append at room_both.few in
        (omega arith, omega (arith, room_both.some_more))

    pub carried_more : length N ≡ length M → Carried all M₀ a₀ b₀ G N (a + x) (b + y)
    carried_more i =
        let (_, p, q) = ended F M N x y h in
        let l = simp length-append at room_both.few in
        record {
          long = i ∙ k.long;
          room = record { few = omega arith; some_more = omega (arith, room_both.some_more) };
          back = λ r K g. k.back r K (rw e (goes_good F G M a b x y N h r K g));
        }

pub carried_end : {all : Seen} {M₀ : List Bool} {a₀ b₀ : ℕ} {rest : Seen} {M : List Bool} {a b : ℕ} → Carried all M₀ a₀ b₀ rest M a b → rest ≡ unseen → Goes all M₀ a₀ b₀ (counted a b) M
carried_end {M = M} {a = a} {b = b} k e = k.back (counted a b) M (rw e (goes_end M a b))
