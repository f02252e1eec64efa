-- The free list's check, number by number.
use Rattle.std.proofs.Common.{◌≡◌, ℕ, ◌+◌, ◌<◌, ◌≤◌, Bool, true, false, List, ◌∷◌, length, get_or, drop, set, sym, refl, ◌∙◌, add-one, length-set, drop-cons, drop_of_length-le, le-ltb, lt-ltb}
use Rattle.laws.specs.Lists.{all_zero}
use Rattle.path.specs.Geometry.{Granule}
use Rattle.model.specs.Audit.{table_words}
use Rattle.audit.specs.Checks.{free_pass}

-- before place i of the free numbers: what is left of them answers for all
pub record Run (G : Granule) (ws : List ℕ) (n : ℕ) (M₀ : List Bool) (L : List ℕ) (M : List Bool) (i : ℕ) : Type 0 where
  pub long : length M ≡ length M₀
  pub same : free_pass G ws n M₀ L ≡ free_pass G ws n M (drop i L)

pub run_starts : (G : Granule) (ws : List ℕ) (n : ℕ) (M : List Bool) (L : List ℕ) → Run G ws n M L M 0
run_starts G ws n M L = record { long = refl; same = refl }

module _ {G : Granule} {ws : List ℕ} {n : ℕ} {M₀ : List Bool} {L : List ℕ} {M : List Bool} {i : ℕ} (k : Run G ws n M₀ L M i) where
  pub run_ends : length L ≤ i → true ≡ free_pass G ws n M₀ L
  unfolding free_pass
  run_ends l = sym (k.same ∙ rw (drop_of_length-le L {i = i} l))

  module _ (l : i < length L) where
    abbrev t : ℕ
    t = get_or L i 0

    step : free_pass G ws n M₀ L ≡ free_pass G ws n M (t ∷ drop (i + 1) L)
    step = k.same ∙ rw (drop-cons L i 0 l, add-one i)

    pub run_out : n ≤ t → false ≡ free_pass G ws n M₀ L
    unfolding free_pass
    run_out h = sym (step ∙ rw (le-ltb t n h))

    module _ (h : t < n) where
      pub run_marked : get_or M t false ≡ true → false ≡ free_pass G ws n M₀ L
      unfolding free_pass
      run_marked u = sym (step ∙ rw (lt-ltb t n h, u))

      module _ (u : get_or M t false ≡ false) where
        pub run_full : all_zero (table_words G ws t) ≡ false → false ≡ free_pass G ws n M₀ L
        unfolding free_pass
        run_full z = sym (step ∙ rw (lt-ltb t n h, u, z))

        pub run_more : all_zero (table_words G ws t) ≡ true → Run G ws n M₀ L (set M t true) (i + 1)
        unfolding free_pass
        run_more z =
            record {
              long = length-set M t true ∙ k.long;
              same = step ∙ rw (lt-ltb t n h, u, z);
            }
