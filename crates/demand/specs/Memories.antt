-- The lent memory is a store of the tree's theory: table t's words from place `entries * t` on, and the free list.
use Rattle.std.specs.Prelude.{◌≡◌, refl, ◌≢◌, List, ℕ, ◌*◌, ◌≤◌, ◌<◌, length, get_or, set}
use Rattle.std.proofs.Common.{sym, ◌∙◌, mul-le-mul_left, arith, length-set, get_or-set_same, get_or-set_other}
use Rattle.std.proofs.Math.Decide.{ℕ_discrete}
use Rattle.laws.specs.Lists.{zeroed}
use Rattle.laws.specs.ListLaws.{length_zeroed}
use Rattle.path.specs.Geometry.{Granule, entries, Sane}
use Rattle.path.specs.Areas.{Area, total, GoodArea}
pub use Rattle.path.specs.Laws.{table_ends, in_table}
use Rattle.model.specs.Walk.{slot}
pub use Rattle.model.proofs.WordLaws.{one_place}
use Rattle.model.proofs.WordLaws.{word_stored, word_other, word_wiped, word_kept}
use Rattle.tree.specs.Region.{Same, same?, upd, upd_at, upd_other, put1, put1_at, put1_other}
use Rattle.tree.specs.Inv.{Store}
use Rattle.demand.specs.Arm.{geo}

-- the tables below a number end where that number's starts
pub tables_before : (K : ℕ) {n t : ℕ} → n ≤ t → K * n ≤ K * t
tables_before K l = mul-le-mul_left K l

-- the words of a pool, by table and index
abbrev pub read_at : Granule → List ℕ → ℕ → ℕ → ℕ
read_at G ws t i = get_or ws (slot G t i) 0

-- the free list, by place
abbrev pub place_at : List ℕ → ℕ → ℕ
place_at list i = get_or list i 0

module _ (G : Granule) (Z : Sane G) (area : Area) (top : ℕ) (al : GoodArea G area) where
  abbrev K : ℕ
  K = entries G

  pub rd_wr : (ws : List ℕ) (t i x : ℕ) → length ws ≡ K * total area → t < total area → i < K → (t' i' : ℕ) → i' < K → read_at G (set ws (slot G t i) x) t' i' ≡ upd (read_at G ws) t i x t' i'
  rd_wr ws t i x k a b t' i' c = go (same? t i t' i')
    where
      go : Dec (Same t i t' i') → read_at G (set ws (slot G t i) x) t' i' ≡ upd (read_at G ws) t i x t' i'
      go (yes s) = let p = s.0 in let q = s.1 in rw (p, q) (word_stored G ws (total area) t i x k a b ∙ sym (upd_at (read_at G ws) t i x t i (refl, refl)))
      go (no d) = word_other G ws t i x t' i' b c d ∙ sym (upd_other (read_at G ws) t i x t' i' d)

  pub rd_kept : (ws : List ℕ) (c t i : ℕ) → i < K → t ≢ c → read_at G (zeroed ws (slot G c 0) K) t i ≡ read_at G ws t i
  rd_kept ws c t i b d = word_kept G ws c t i b d

  pub pl_push : (q : List ℕ) (f t : ℕ) → length q ≡ total area → f < total area → (i : ℕ) → place_at (set q f t) i ≡ put1 (place_at q) f t i
  pl_push q f t k l i = go (ℕ_discrete i f)
    where
      go : Dec (i ≡ f) → place_at (set q f t) i ≡ put1 (place_at q) f t i
      go (yes e) = rw e (get_or-set_same q f t 0 (omega arith) ∙ sym (put1_at (place_at q) f t))
      go (no e) = get_or-set_other q f i t 0 e ∙ sym (put1_other (place_at q) f t i e)

  abbrev pub store : Store (geo G Z area top al)
  store = record {
    M = List ℕ;
    Ok = λ ws. length ws ≡ K * total area;
    rd = read_at G;
    wr = λ ws t i x. set ws (slot G t i) x;
    wipe = λ ws c. zeroed ws (slot G c 0) K;
    wr_ok = λ ws t i x k. length-set ws (slot G t i) x ∙ k;
    wipe_ok = λ ws c k. length_zeroed ws (slot G c 0) K ∙ k;
    rd_wr = rd_wr;
    rd_wiped = λ ws c k l i b. word_wiped G ws (total area) c i k l b;
    rd_kept = λ ws c k l t i b d. rd_kept ws c t i b d;
    Q = List ℕ;
    Okᶠ = λ q. length q ≡ total area;
    pl = place_at;
    push = λ q f t. set q f t;
    push_ok = λ q f t k. length-set q f t ∙ k;
    pl_push = pl_push;
  }
