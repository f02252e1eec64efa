-- The ledger's tests, as facts about its mappings.
use Rattle.std.specs.Prelude.{◌≡◌, refl, ◌≢◌, ◌↔◌, Bool, true, false, cond, ℕ, zero, suc, ◌<◌, ltb, eqb}
use Rattle.std.proofs.Common.{ap, sym, ◌∙◌, ⊎_elim, ltb-true, eqb-true}
use mathlib.Core.List.Memᴰ
use mathlib.Core.List.Memᴰ.{head as here}
use mathlib.Core.List.Memᴰ.{tail as there}
use mathlib.Core.List.{List, [], ◌∷◌, Memᴰ}
use Rattle.std.proofs.lemmas.Bool.{eqb-false}
use Rattle.path.specs.Geometry.{Granule, size_at, Sane}
use Rattle.path.specs.Laws.{size_injective}
use Rattle.path.specs.Paths.{base_at}
use Rattle.model.specs.Answers.{Mapping}
use Rattle.model.specs.Ledger.{drop_at, Region, region, regions_of, has_region, new_regions, regions_needed}

-- the ledger without the mapping at an address has the others, and nothing else
pub drop_has : (a : ℕ) (L : List Mapping) (m : Mapping) → Memᴰ m (drop_at a L) ↔ (Memᴰ m L × (m.at ≢ a))
unfolding drop_at
drop_has a [] m = (λ i. absurd (Memᴰ.not-nil i), λ i. i.0)
drop_has a (k ∷ L) m = go (eqb k.at a) refl (drop_has a L m)
  where
    go : (b : Bool) → eqb k.at a ≡ b → Memᴰ m (drop_at a L) ↔ (Memᴰ m L × (m.at ≢ a))
        → Memᴰ m (cond b (drop_at a L) (k ∷ drop_at a L)) ↔ (Memᴰ m (k ∷ L) × (m.at ≢ a))
    go true q ih = (
      λ i. let (x, y) = ih.0 i in (there x, y),
      λ (i, d). ⊎_elim (λ e. absurd (d (ap (λ (z : Mapping). z.at) e ∙ eqb-true _ _ q))) (λ j. ih.1 (j, d)) (Memᴰ.cases_cons i),
    )
    go false q ih = (
      λ i. ⊎_elim (λ e. (here e, λ z. eqb-false _ _ q (ap (λ (z : Mapping). z.at) (sym e) ∙ z))) (λ j. let (x, y) = ih.0 j in (there x, y)) (Memᴰ.cases_cons i),
      λ (i, d). ⊎_elim (λ e. here e) (λ j. there (ih.1 (j, d))) (Memᴰ.cases_cons i),
    )

-- a region that a mapping needs a table for is larger than the mapping and holds it
regions_from : (G : Granule) (m : Mapping) (k : ℕ) (q : Region) → Memᴰ q (regions_of G m k) → (j : ℕ) × (m.size < size_at G j) × (q ≡ region (size_at G j) (base_at G m.at j))
unfolding regions_of
regions_from G m zero q i = absurd (Memᴰ.not-nil i)
regions_from G m (suc k) q i = go (ltb m.size (size_at G (suc k))) refl i (regions_from G m k q)
  where
    From : Type 0
    From = (j : ℕ) × (m.size < size_at G j) × (q ≡ region (size_at G j) (base_at G m.at j))

    go : (b : Bool) → ltb m.size (size_at G (suc k)) ≡ b
        → Memᴰ q (cond b (region (size_at G (suc k)) (base_at G m.at (suc k)) ∷ regions_of G m k) (regions_of G m k)) → (Memᴰ q (regions_of G m k) → From) → From
    go true e i ih = ⊎_elim (λ z. (suc k, ltb-true _ _ e, z)) ih (Memᴰ.cases_cons i)
    go false e i ih = ih i

new_from : (q : Region) (Q R : List Region) → Memᴰ q (new_regions Q R) → Memᴰ q Q
unfolding new_regions
new_from q [] R i = i
new_from q (r ∷ Q) R i = go (has_region r R) i (new_from q Q R)
  where
    go : (b : Bool) → Memᴰ q (cond b (new_regions Q R) (r ∷ new_regions Q R)) → (Memᴰ q (new_regions Q R) → Memᴰ q Q) → Memᴰ q (r ∷ Q)
    go true i ih = there (ih i)
    go false i ih = ⊎_elim (λ e. here e) (λ j. there (ih j)) (Memᴰ.cases_cons i)

-- a region that live mappings need a table for holds one of them, which is smaller
pub needed_mapping : (G : Granule) → Sane G → (k : ℕ) (L : List Mapping) (h a : ℕ) → Memᴰ (region (size_at G h) a) (regions_needed G k L)
    → (m : Mapping) × Memᴰ m L × (m.size < size_at G h) × (base_at G m.at h ≡ a)
unfolding regions_needed
needed_mapping G Z k [] h a i = absurd (Memᴰ.not-nil i)
needed_mapping G Z k (m ∷ L) h a i = ⊎_elim own (λ j. let (x, y, u, v) = needed_mapping G Z k L h a j in (x, there y, u, v))
    (Memᴰ.append_cases (new_regions (regions_of G m k) (regions_needed G k L)) i)
  where
    own : Memᴰ (region (size_at G h) a) (new_regions (regions_of G m k) (regions_needed G k L))
        → (x : Mapping) × Memᴰ x (m ∷ L) × (x.size < size_at G h) × (base_at G x.at h ≡ a)
    own i =
        let (j, l, e) = regions_from G m k (region (size_at G h) a) (new_from (region (size_at G h) a) (regions_of G m k) (regions_needed G k L) i) in
        let z : h ≡ j = size_injective G Z h j (ap (λ (q : Region). q.size) e) in
        (m, here refl, rw z l, ap (base_at G m.at) z ∙ ap (λ (q : Region). q.first) (sym e))
