-- Lists without repetition, and counting with them.
-- A list whose members are all in another is no longer than that (`length_within`), so two with the same members are equally
-- long: that is how free tables, reached tables and needed regions are counted against each other and against `below n`, all
-- the numbers of a pool. (The library's own distinct lists and lengths are over other numbers.)
use Rattle.std.specs.Prelude.{◌≡◌, refl, ◌⊎◌, ℕ, zero, suc, ◌≤◌, ◌<◌, length}
use Rattle.std.proofs.Common.{ap, sym, ◌∙◌, subst, inl, inr, ⊎_elim, arith}
use mathlib.Core.List.Memᴰ
use mathlib.Core.List.Memᴰ.{head as here}
use mathlib.Core.List.Memᴰ.{tail as there}
use mathlib.Core.List.{List, [], ◌∷◌, ◌++◌, map, Memᴰ}
use Rattle.std.proofs.Math.Decide.{ℕ_discrete}
use Rattle.std.proofs.lemmas.List.{length-map}
use Rattle.tree.specs.Tree.{Ent, Geo}
use Rattle.tree.specs.Inv.{Mapping, InvIf}
pub use Rattle.laws.specs.Lists.{Distinct}

module _ {A : Type 0} where
  -- l has one member more than some list, which has all of l but a
  abbrev Rest : A → List A → Type 0
  Rest a l = (k : List A) × (length l ≡ suc (length k)) × ((b : A) → Memᴰ b l → (b ≡ a) ⊎ Memᴰ b k)

  take_out : (a : A) (l : List A) → Memᴰ a l → Rest a l
  take_out a [] m = absurd (Memᴰ.not-nil m)
  take_out a (x ∷ l) m = go (Memᴰ.cases_cons m) (λ n. take_out a l n)
    where
      go : (a ≡ x) ⊎ Memᴰ a l → (Memᴰ a l → Rest a l) → Rest a (x ∷ l)
      go (inl e) ih = (l, refl, λ b n. ⊎_elim (λ d. inl (d ∙ sym e)) (λ d. inr d) (Memᴰ.cases_cons n))
      go (inr n) ih = let (k, p, q) = ih n in
          (x ∷ k, ap suc p, λ b c. ⊎_elim (λ d. inr (here d)) (λ d. more b k (q b d)) (Memᴰ.cases_cons c))
        where
          more : (b : A) (k : List A) → (b ≡ a) ⊎ Memᴰ b k → (b ≡ a) ⊎ Memᴰ b (x ∷ k)
          more b k (inl y) = inl y
          more b k (inr y) = inr (there y)

  -- a distinct list whose members another has is no longer
  pub length_within : (l k : List A) → Distinct l → ((a : A) → Memᴰ a l → Memᴰ a k) → length l ≤ length k
  length_within [] k d f = omega arith
  length_within (a ∷ l) k d f =
      let (k', p, q) = take_out a k (f a (here refl)) in
      let other : (b : A) → Memᴰ b l → b ≡ a → ⊥ = (λ b m e. d.0 (subst (λ (x : A). Memᴰ x l) e m)) in
      let ih = length_within l k' d.1 (λ b m. ⊎_elim (λ e. absurd (other b m e)) (λ n. n) (q b (f b (there m)))) in
      omega arith

  -- two distinct lists with no common member are one
  pub distinct_append : (l k : List A) → Distinct l → Distinct k → ((a : A) → Memᴰ a l → Memᴰ a k → ⊥)
      → Distinct (l ++ k)
  distinct_append [] k d e f = e
  distinct_append (a ∷ l) k d e f =
      (λ m. ⊎_elim d.0 (f a (here refl)) (Memᴰ.append_cases l m), distinct_append l k d.1 e (λ b m. f b (there m)))

-- what a function keeps apart stays distinct
pub distinct_map : {A B : Type 0} (f : A → B) (l : List A) → Distinct l
    → ((a b : A) → Memᴰ a l → Memᴰ b l → f a ≡ f b → a ≡ b) → Distinct (map f l)
distinct_map f [] d i = tt
distinct_map {A} f (a ∷ l) d i = (
  λ m. let (b, n, e) = Memᴰ.of_map f l m in d.0 (subst (λ (x : A). Memᴰ x l) (i b a (there n) (here refl) e) n),
  distinct_map f l d.1 (λ b c m n. i b c (there m) (there n)),
)

-- a member that a decided test takes, or the proof that there is none
unfoldable pub any? : {A : Type 0} {Q : A → Type 0} → ((a : A) → Dec (Q a)) → (l : List A) → Dec ((a : A) × Memᴰ a l × Q a)
any? q? [] = no (λ w. Memᴰ.not-nil w.1)
any? {A} {Q} q? (a ∷ l) = go (q? a) (any? q? l)
  where
    go : Dec (Q a) → Dec ((b : A) × Memᴰ b l × Q b) → Dec ((b : A) × Memᴰ b (a ∷ l) × Q b)
    go (yes p) d = yes (a, here refl, p)
    go (no p) (yes w) = yes (w.0, there w.1, w.2)
    go (no p) (no n) = no (λ w. ⊎_elim (λ e. p (subst Q e w.2)) (λ m. n (w.0, m, w.2)) (Memᴰ.cases_cons w.1))

-- the numbers below n
abbrev pub below : ℕ → List ℕ
below zero = []
below (suc n) = n ∷ below n

-- there are n
pub below_length : (n : ℕ) → length (below n) ≡ n
below_length zero = refl
below_length (suc n) = ap suc (below_length n)

-- they are below n
pub below_lt : (n i : ℕ) → Memᴰ i (below n) → i < n
below_lt zero i m = absurd (Memᴰ.not-nil m)
below_lt (suc n) i m = ⊎_elim (λ e. omega arith) (λ k. omega (arith, below_lt n i k)) (Memᴰ.cases_cons m)

-- and all that are
pub below_has : (n i : ℕ) → i < n → Memᴰ i (below n)
below_has zero i l = absurd (omega arith)
below_has (suc n) i l = go (ℕ_discrete i n) (λ k. below_has n i k)
  where
    go : Dec (i ≡ n) → (i < n → Memᴰ i (below n)) → Memᴰ i (n ∷ below n)
    go (yes e) ih = here e
    go (no e) ih = there (ih (omega arith))

-- each once
pub below_distinct : (n : ℕ) → Distinct (below n)
below_distinct zero = tt
below_distinct (suc n) = (λ m. omega (arith, below_lt n n m), below_distinct n)

-- n distinct numbers below n are all of them
pub has_all : (n : ℕ) (l : List ℕ) → Distinct l → ((t : ℕ) → Memᴰ t l → t < n) → length l ≡ n
    → (t : ℕ) → t < n → Memᴰ t l
has_all n l d s e t a = go (any? (λ b. ℕ_discrete t b) l)
  where
    low : (b : ℕ) → Memᴰ b (t ∷ l) → Memᴰ b (below n)
    low b m = below_has n b (⊎_elim (λ q. omega arith) (s b) (Memᴰ.cases_cons m))

    go : Dec ((b : ℕ) × Memᴰ b l × (t ≡ b)) → Memᴰ t l
    go (yes w) = Memᴰ.cast w.2 w.1
    go (no w) = absurd (omega (arith, length_within (t ∷ l) (below n) (λ m. w (t, m, refl), d) low, below_length n))

-- the first f places of a list
abbrev pub places : (ℕ → ℕ) → ℕ → List ℕ
places P f = map P (below f)

-- there are f
pub places_length : (P : ℕ → ℕ) (f : ℕ) → length (places P f) ≡ f
places_length P f = length-map (below f) P ∙ below_length f

-- they are distinct, where no two places are equal
pub places_distinct : (P : ℕ → ℕ) (f : ℕ) → ((i j : ℕ) → i < f → j < f → P i ≡ P j → i ≡ j) → Distinct (places P f)
places_distinct P f once = distinct_map P (below f) (below_distinct f) (λ i j a b e. once i j (below_lt f i a) (below_lt f j b) e)

-- a member is at a place
pub places_from_lem : (P : ℕ → ℕ) (f t : ℕ) → Memᴰ t (places P f) → (i : ℕ) × (i < f) × (P i ≡ t)
places_from_lem P f t m = let (i, a, e) = Memᴰ.of_map P (below f) m in (i, below_lt f i a, e)

module _ {C D : Type 0} {G : Geo} {W : ℕ → ℕ → ℕ} {P : ℕ → ℕ} {f : ℕ} {T : ℕ → ℕ → ℕ} {S : ℕ → ℕ → Ent} {L : List Mapping} {h r : ℕ}
    (I : InvIf C D G W P f T S L h r) (d : D) where
  -- the root is table 0 of the pool
  pub root_low : zero < G.n
  root_low = omega (arith, I.ren.root_at, I.ren.range G.top 0 I.ren.root)

  -- no free table is the root
  pub free_not_root : Memᴰ 0 (places P f) → ⊥
  free_not_root m = let (i, l, e) = places_from_lem P f 0 m in ((I.spare d).free.each i l).1 G.top 0 I.ren.root (I.ren.root_at ∙ sym e)

  -- free tables are in the pool
  pub free_low : (t : ℕ) → Memᴰ t (places P f) → t < G.n
  free_low t m = let (i, l, e) = places_from_lem P f t m in omega (arith, e, ((I.spare d).free.each i l).0)

  -- with the root they are at most n: the free list has a place for one more
  pub free_room : f < G.n
  free_room = omega (arith, length_within (0 ∷ places P f) (below G.n) once low, below_length G.n, places_length P f)
    where
      once : Distinct (0 ∷ places P f)
      once = (free_not_root, places_distinct P f (I.spare d).free.once)

      low : (t : ℕ) → Memᴰ t (0 ∷ places P f) → Memᴰ t (below G.n)
      low t m = below_has G.n t (⊎_elim (λ e. omega (arith, root_low)) (free_low t) (Memᴰ.cases_cons m))
