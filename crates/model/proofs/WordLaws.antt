-- Laws of single words, by table and index: what stands there after a word was stored, and after a table was filled with zeros.
use Rattle.std.specs.Prelude.{ℕ, ◌+◌, ◌*◌, ◌/◌, ◌%◌, ◌<◌, ◌≡◌, ◌≢◌, List, length, set}
use Rattle.std.proofs.Common.{ap, sym, ◌∙◌, mul_comm, arith, get_or-set_same, get_or-set_other}
use Rattle.std.proofs.Math.Decide.{dec_lt}
use Rattle.std.proofs.Math.Arith.{digits_div, digits_mod}
use Rattle.laws.specs.Lists.{zeroed}
use Rattle.laws.specs.ListLaws.{get_d_zeroed, get_d_zeroed_before, get_d_zeroed_after}
use Rattle.path.specs.Geometry.{Granule, entries}
use Rattle.path.specs.Laws.{table_ends, in_table}
use Rattle.model.specs.Walk.{slot}
use Rattle.model.specs.Sound.{word_at}

-- a place of a table is that of one table and one index
pub one_place : {K t i t' i' : ℕ} → i < K → i' < K → K * t' + i' ≡ K * t + i → (t' ≡ t) × (i' ≡ i)
one_place {K} {t} {i} {t'} {i'} a b e =
    let p : t' * K + i' ≡ t * K + i = rw (mul_comm t' K, mul_comm t K) e in
    (sym (digits_div t' b) ∙ ap (λ (z : ℕ). z / K) p ∙ digits_div t a, sym (digits_mod t' b) ∙ ap (λ (z : ℕ). z % K) p ∙ digits_mod t a)

module _ (G : Granule) (ws : List ℕ) where
  -- the word that was stored
  pub word_stored : (n t i x : ℕ) → length ws ≡ entries G * n → t < n → i < entries G → word_at G (set ws (slot G t i) x) t i ≡ x
  word_stored n t i x k l b = get_or-set_same ws (slot G t i) x 0 (omega (arith, in_table (entries G) l b))

  -- and any other
  pub word_other : (t i x t' i' : ℕ) → i < entries G → i' < entries G → ((t' ≡ t) × (i' ≡ i) → ⊥) → word_at G (set ws (slot G t i) x) t' i' ≡ word_at G ws t' i'
  word_other t i x t' i' b c d = get_or-set_other ws (slot G t i) (slot G t' i') x 0 (λ e. d (one_place b c e))

  -- a word of the table that was cleared
  pub word_wiped : (n c i : ℕ) → length ws ≡ entries G * n → c < n → i < entries G → word_at G (zeroed ws (slot G c 0) (entries G)) c i ≡ 0
  word_wiped n c i k l b = get_d_zeroed ws (slot G c 0) (entries G) (omega (arith, table_ends (entries G) l)) (slot G c i) (omega arith) (omega arith)

  -- and of any other table
  pub word_kept : (c t i : ℕ) → i < entries G → t ≢ c → word_at G (zeroed ws (slot G c 0) (entries G)) t i ≡ word_at G ws t i
  word_kept c t i b d = go (dec_lt t c)
    where
      go : Dec (t < c) → word_at G (zeroed ws (slot G c 0) (entries G)) t i ≡ word_at G ws t i
      go (yes l) = get_d_zeroed_before ws (slot G c 0) (entries G) (slot G t i) (omega (arith, in_table (entries G) l b))
      go (no l) = get_d_zeroed_after ws (slot G c 0) (entries G) (slot G t i) (let g : c < t = omega arith in omega (arith, table_ends (entries G) g))
