-- Laws of holes. The ledger's hole keeps the customer's two sentences, they fix it, and it is the largest untouched region of the tree's sizes.
use Prim.Native.Nat.{ℕ, zero, suc, ◌+◌, ◌-◌, ◌≤◌, ◌<◌}
use Rattle.std.specs.Prelude.{◌≡◌, Bool, leb, eqb}
use Rattle.std.proofs.Math.Path.{refl}
use Rattle.std.proofs.Common.{sym, ap, subst, ◌∙◌, arith}
use Rattle.std.proofs.Math.Bool.{true, false, cond}
use Rattle.std.proofs.lemmas.Bool.{false≢true}
use mathlib.Core.List.{List, Memᴰ}
use Rattle.std.proofs.Math.Option.{Option, some, none}
use Rattle.std.proofs.Math.Decide.{dec_le}
use Rattle.path.specs.Geometry.{Granule, size_at, space_of}
use Rattle.path.specs.Paths.{base_at}
use Rattle.path.specs.Laws.{size_pos, size_le}
use Rattle.path.specs.RegionLaws.{Placed, nested, lower, higher, base_le, base_end, base_aligned, base_inside, base_within, nested_or_apart}
use Rattle.model.specs.Answers.{Mapping, gave, refused, hole}
use Rattle.model.specs.Calls.{unmap_tests}
use Rattle.model.proofs.DescentLaws.{clash}
use Rattle.model.specs.Ledger.{Region, region, Ledger, with_live, entered, any_overlap, cover_of, drop_at, free_tables, hole_from, hole_of, hole_at, query_of, query_l, unmap_of, unmap_l}
use Rattle.model.specs.Sound.{Each}
use Rattle.model.specs.Holes.{Within, Shares, Touched, HoldsOne, Around, IsHole, Shaped}
use Rattle.model.proofs.LedgerLaws.{any_overlap_lem, cover_none}

module _ (G : Granule) where
  -- the region of height h around an address, computed
  abbrev pub here : ℕ → ℕ → Region
  here a h = region (size_at G h) (base_at G a h)

  pub around_here : (levels a h : ℕ) → h < levels → Around G levels a h (here a h)
  around_here levels a h l = record { low = l; sized = refl; aligned = base_aligned G a h; starts = base_le G a h; ends = base_end G a h }

  -- there is one
  pub around_one : {levels a h : ℕ} {r : Region} → Around G levels a h r → r ≡ here a h
  around_one {a = a} {h = h} {r = r} Q = λ i. region (s i) (f i)
    where
      s : r.size ≡ size_at G h
      s = Q.sized

      f : r.first ≡ base_at G a h
      f = sym (base_inside G r.first a h Q.aligned Q.starts Q.ends)

  -- a mapping that touches the region around an address, and does not hold the address, lies in the region
  touching_inside : (a h : ℕ) (m : Mapping) → Shaped G m → Shares (base_at G a h) (size_at G h) m → (Within a m → ⊥)
      → (base_at G a h ≤ m.at) × (m.at + m.size ≤ base_at G a h + size_at G h)
  touching_inside a h m s (p, q) away = go (dec_le s.height h)
    where
      k : ℕ
      k = s.height

      size : m.size ≡ size_at G k
      size = s.sized

      below : Placed m.at (size_at G k) (base_at G a h) (size_at G h) → (base_at G a h ≤ m.at) × (m.at + m.size ≤ base_at G a h + size_at G h)
      below (nested x y) = (x, omega arith)
      below (lower x) = absurd (omega arith)
      below (higher x) = absurd (omega arith)

      above : Placed (base_at G a h) (size_at G h) m.at (size_at G k) → ⊥
      above (nested x y) = away (omega (arith, base_le G a h), omega (arith, base_end G a h))
      above (lower x) = omega arith
      above (higher x) = omega arith

      go : Dec (k ≤ h) → (base_at G a h ≤ m.at) × (m.at + m.size ≤ base_at G a h + size_at G h)
      go (yes l) = below (nested_or_apart G l m.at (base_at G a h) s.aligned (base_aligned G a h))
      go (no n) = absurd (above (nested_or_apart G {j = h} {h = k} (omega arith) (base_at G a h) m.at (base_aligned G a h) s.aligned))

  -- so one that does not hold the address does not touch its page
  page_untouched : (a : ℕ) (m : Mapping) → Shaped G m → (Within a m → ⊥) → Shares (base_at G a 0) (size_at G 0) m → ⊥
  page_untouched a m s away t =
      let (x, y) = touching_inside a 0 m s t away in
      away (page x y)
    where
      page : base_at G a 0 ≤ m.at → m.at + m.size ≤ base_at G a 0 + size_at G 0 → Within a m
      page x y =
          let z = size_le G {j = 0} {h = s.height} (omega arith) in
          let w = s.sized in
          (omega (arith, base_le G a 0), omega (arith, base_end G a 0))

  module _ (A : Ledger) (shaped : Each (Shaped G) A.live) (a : ℕ) where
    abbrev L : List Mapping
    L = A.live

    -- the ledger's hole is one
    hole_from_lem : ((m : Mapping) → Memᴰ m L → Within a m → ⊥) → (k : ℕ) → k < A.levels
        → ((q : Region) → Around G A.levels a (suc k) q → HoldsOne L q) → IsHole G A a (hole_from G a L k)
    unfolding hole_from
    hole_from_lem away zero l next = record {
      height = 0;
      around = around_here A.levels a 0 l;
      untouched = λ (m, i, t). page_untouched a m (shaped m i) (away m i) t;
      next_holds = next;
    }
    hole_from_lem away (suc k) l next = go (any_overlap (base_at G a (suc k)) (size_at G (suc k)) L) refl (hole_from_lem away k (omega arith))
      where
        inside : any_overlap (base_at G a (suc k)) (size_at G (suc k)) L ≡ true → HoldsOne L (here a (suc k))
        inside e =
            let (m, i, t) = (any_overlap_lem (base_at G a (suc k)) (size_at G (suc k)) L).0 e in
            let (x, y) = touching_inside a (suc k) m (shaped m i) t (away m i) in
            (m, i, x, y)

        go : (b : Bool) → any_overlap (base_at G a (suc k)) (size_at G (suc k)) L ≡ b
            → (((q : Region) → Around G A.levels a (suc k) q → HoldsOne L q) → IsHole G A a (hole_from G a L k))
            → IsHole G A a (cond b (hole_from G a L k) (here a (suc k)))
        go true e ih = ih (λ q Q. subst (HoldsOne L) (sym (around_one Q)) (inside e))
        go false e ih = record {
          height = suc k;
          around = around_here A.levels a (suc k) l;
          untouched = λ t. false≢true (sym e ∙ (any_overlap_lem (base_at G a (suc k)) (size_at G (suc k)) L).1 t);
          next_holds = next;
        }

    -- where no live mapping holds the address, the ledger's hole keeps both sentences
    pub hole_is : 0 < A.levels → cover_of a L ≡ none → IsHole G A a (hole_of G A a)
    unfolding hole_of
    hole_is l e = hole_from_lem (cover_none a L e) (A.levels - 1) (omega arith) (λ q Q. absurd (omega (arith, Q.low)))

    -- so where query or unmap answers 9 with a base and a size, that region is the hole
    is_hole : 0 < A.levels → cover_of a L ≡ none → (b s : ℕ) → hole_at (hole_of G A a) ≡ hole b s → IsHole G A a (region s b)
    is_hole l c b s e = subst (IsHole G A a) (same (hole_of G A a) e) (hole_is l c)
      where
        same : (r : Region) → hole_at r ≡ hole b s → r ≡ region s b
        same r e =
            let x : r.size ≡ s = cc in
            let y : r.first ≡ b = cc in
            λ i. region (x i) (y i)

    pub query_hole : 0 < A.levels → (b s : ℕ) → query_l G A a ≡ hole b s → IsHole G A a (region s b)
    unfolding query_l
    query_hole l b s = go (leb (space_of G A.levels) a) (cover_of a L) refl
      where
        go : (y : Bool) (c : Option Mapping) → cover_of a L ≡ c → cond y (refused 4) (query_of G A a c) ≡ hole b s → IsHole G A a (region s b)
        go true c q e = clash (cc)
        go false none q e = is_hole l q b s e
        go false (some m) q e = clash (cc)

    pub unmap_hole : 0 < A.levels → (b s : ℕ) → (unmap_l G A a).answer ≡ hole b s → IsHole G A a (region s b)
    unfolding unmap_l unmap_of
    unmap_hole l b s = go (eqb (unmap_tests G A.levels a) 0) (cover_of a L) refl
      where
        go : (y : Bool) (c : Option Mapping) → cover_of a L ≡ c → (cond y (unmap_of G A a c) (entered (refused (unmap_tests G A.levels a)) A)).answer ≡ hole b s → IsHole G A a (region s b)
        go false c q e = clash (cc)
        go true none q e = is_hole l q b s e
        go true (some m) q e = at (eqb m.at a) e
          where
            B : Ledger
            B = with_live A (drop_at a L)

            at : (z : Bool) → (cond z (entered (gave m.frame m.size m.attributes (free_tables G B - free_tables G A)) B) (entered (refused 10) A)).answer ≡ hole b s → IsHole G A a (region s b)
            at true e = clash (cc)
            at false e = clash (cc)

    -- where a region around the address holds a mapping, every larger one is touched
    touched_above : {i j : ℕ} → i ≤ j → (q : Region) → Around G A.levels a i q → HoldsOne L q → Touched L (here a j)
    touched_above {i} {j} l q Q (m, k, x, y) = (m, k, share (around_one Q))
      where
        s : Shaped G m
        s = shaped m k

        share : q ≡ here a i → Shares (base_at G a j) (size_at G j) m
        share e =
            let (u, v) = base_within G l a in
            let f : q.first ≡ base_at G a i = ap (λ (z : Region). z.first) e in
            let g : q.size ≡ size_at G i = ap (λ (z : Region). z.size) e in
            let w = s.sized in
            (omega (arith, size_pos G s.height), omega (arith, size_pos G s.height))

    -- no untouched region around the address is higher than a hole
    pub hole_highest : {r : Region} (H : IsHole G A a r) (h : ℕ) (q : Region) → Around G A.levels a h q → (Touched L q → ⊥) → h ≤ H.height
    hole_highest H h q Q free = go (dec_le h H.height)
      where
        go : Dec (h ≤ H.height) → h ≤ H.height
        go (yes l) = l
        go (no n) =
            let up : suc H.height ≤ h = omega arith in
            let N = around_here A.levels a (suc H.height) (omega (arith, Q.low)) in
            absurd (free (subst (Touched L) (sym (around_one Q)) (touched_above up (here a (suc H.height)) N (H.next_holds (here a (suc H.height)) N))))

    -- so none is larger
    pub hole_largest : {r : Region} (H : IsHole G A a r) (h : ℕ) (q : Region) → Around G A.levels a h q → (Touched L q → ⊥) → q.size ≤ r.size
    hole_largest H h q Q free = omega (arith, Q.sized, H.around.sized, size_le G (hole_highest H h q Q free))

    -- the two sentences fix it
    pub hole_only : {r q : Region} → IsHole G A a r → IsHole G A a q → r ≡ q
    hole_only {r} {q} H K = around_one H.around ∙ ap (here a) same ∙ sym (around_one K.around)
      where
        same : H.height ≡ K.height
        same = omega (arith, hole_highest H K.height q K.around K.untouched, hole_highest K H.height r H.around H.untouched)
