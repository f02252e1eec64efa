-- Words of the last level that are damaged: by what the code has of one, and counted.
use Rattle.std.specs.Prelude.{ℕ, ◌+◌, ◌%◌, ◌≡◌, refl, ◌≢◌, Bool, true, false, cond, not, eqb, List, count_by}
use Rattle.std.proofs.Common.{sym, ◌∙◌, arith, le-leb, eq-eqb, ne_eqb}
use Rattle.std.proofs.lemmas.List.Recursion.{is_count_by}
use Rattle.path.specs.Geometry.{Granule, size_at}
use Rattle.entry.specs.Words.{base_in, attrs_in, frame_word, frame_at}
use Rattle.entry.specs.declared.Entry.TheVariants.{Frame, Damaged}
use Rattle.model.specs.Ranges.{is_damaged}
use Rattle.sweeps.specs.Parts.{is_fine, misfits_in}

module _ (G : Granule) (w : ℕ) (n : w ≢ 0) {r : ℕ} (e : r ≡ base_in w % size_at G 0) where
  pub fault_askew : r ≢ 0 → is_fine G w ≡ false
  unfolding frame_at
  fault_askew d = rw (ne_eqb w 0 n, ne_eqb (base_in w % size_at G 0) 0 (λ z. d (e ∙ z)), le-leb 0 G.large (omega arith)) refl

  pub fault_page : r ≡ 0 → is_fine G w ≡ eqb w (frame_word (base_in w) 0 (attrs_in w))
  unfolding frame_at
  fault_page z = rw (ne_eqb w 0 n, eq-eqb (base_in w % size_at G 0) 0 (sym e ∙ z), le-leb 0 G.large (omega arith)) (go (eqb w (frame_word (base_in w) 0 (attrs_in w))))
    where
      go : (y : Bool) → not (is_damaged (cond y (Frame (base_in w) (attrs_in w)) Damaged)) ≡ y
      go true = refl
      go false = refl

pub misfits_counted : (G : Granule) (ws : List ℕ) → misfits_in G ws ≡ count_by (λ w. not (is_fine G w)) ws
unfolding misfits_in
misfits_counted G ws = is_count_by (misfits_in G) (λ w. not (is_fine G w)) refl (λ w l. go (is_fine G w) (misfits_in G l)) ws
  where
    go : (y : Bool) (n : ℕ) → cond y 0 1 + n ≡ cond (not y) (1 + n) n
    go true n = omega arith
    go false n = refl
