-- Laws of the walks of a range, from where one ended to where the next begins.
use Rattle.std.specs.Prelude.{ℕ, zero, suc, ◌+◌, ◌-◌, ◌*◌, ◌/◌, ◌%◌, ◌≤◌, ◌<◌, ◌≡◌, refl, ◌≢◌, Bool, ◌||◌, ltb, length, replicate}
use Rattle.std.proofs.Math.Path.{ap, subst}
use Rattle.std.proofs.Common.{sym, ◌∙◌, inl, inr, ⊎_elim, add-mul, arith, lt-ltb, le-ltb, le-leb}
use Rattle.std.proofs.Math.Bool.{true, false, cond, not}
use mathlib.Core.List.Memᴰ.{head as here}
use mathlib.Core.List.Memᴰ.{tail as there}
use mathlib.Core.List.{List, [], ◌∷◌, ◌++◌, map, Memᴰ}
use Rattle.std.proofs.Math.Nat.{mul-div_cancel}
use Rattle.std.proofs.Math.Decide.{dec_lt}
use Rattle.std.proofs.lemmas.Bool.{lt-leb}
use Rattle.path.specs.Geometry.{Granule, Sane, page_size, size_at, physical}
use Rattle.path.specs.Areas.{area_of}
use Rattle.path.specs.Laws.{good_setup_lem, page_pos}
use Rattle.path.specs.Paths.{base_at, path_of}
use Rattle.path.specs.RegionLaws.{base_region, base_inside, base_aligned, base_le, region_above, region_base}
use Rattle.entry.specs.declared.Entry.{Entry}
use Rattle.entry.specs.declared.Entry.TheVariants.{Empty, Table, Frame, Damaged}
use Rattle.model.specs.declared.Walked.{Walked}
use Rattle.path.specs.declared.Setup.{Setup}
use Rattle.model.specs.Answers.{Pool, pool}
use Rattle.model.specs.Ledger.{region}
use Rattle.model.specs.Walk.{at_height, no_way}
use Rattle.model.specs.Calls.{walk_to}
use Rattle.model.proofs.DescentLaws.{clash}
use Rattle.model.proofs.LedgerLaws.{true_or}
use Rattle.model.specs.Ranges.{pages_from, pages_of, Probe, page_walk, page_walks, any_ends, is_damaged, Standing, standing, on_ways, one_region_each, spoiled, inside, cut_at, any_cut_by}
use Rattle.model.proofs.RangeLaws.{pages_from_lem, pages_has, false_or}
use Rattle.model.proofs.RangeWalks.{left_low, walk_region, walk_stopped, stopped_in}
use Rattle.model.proofs.RangeMapped.{ways_has, or_assoc}
use Rattle.model.specs.RangeMapped.{standing_at}
use Rattle.model.proofs.RangeUnmapLaws.{few_levels}
use Rattle.model.proofs.RangeSkips.{pages_append}
use Rattle.marks.specs.Marks.{Noted, noted, note_way}
use Rattle.marks.specs.MarkLaws.{Marked, Clash, Noting, agreed, clashes, marked_none, marked_like, marked_each, clash_like, clash_each, on_ways_append, note_walk, ways_from, Within}
use Rattle.sweeps.specs.Parts.{until_end, Rest, walks_say, AllNoted, Meets, cuts}
use Rattle.sweeps.specs.Pages.{pages_between, pages_some, Ends, ends_at}
use Rattle.sweeps.specs.Removing.{pages_whole}

-- ---- lists of walks

pub map_append : {A B : Type 0} (f : A → B) (xs ys : List A) → map f (xs ++ ys) ≡ map f xs ++ map f ys
map_append f [] ys = refl
map_append f (x ∷ xs) ys = ap (λ l. f x ∷ l) (map_append f xs ys)

ends_append : (such : Entry → Bool) (ws vs : List Probe) → any_ends such (ws ++ vs) ≡ (any_ends such ws || any_ends such vs)
unfolding any_ends
ends_append such [] vs = refl
ends_append such (w ∷ ws) vs = ap (λ (y : Bool). such w.end.entry || y) (ends_append such ws vs) ∙ sym (or_assoc (such w.end.entry) (any_ends such ws) (any_ends such vs))

ends_none : (such : Entry → Bool) (ws : List Probe) → ((w : Probe) → Memᴰ w ws → such w.end.entry ≡ false) → any_ends such ws ≡ false
unfolding any_ends
ends_none such [] f = refl
ends_none such (w ∷ ws) f = false_or (f w (here refl)) (ends_none such ws (λ v i. f v (there i)))

ends_some : (such : Entry → Bool) (ws : List Probe) (w : Probe) → Memᴰ w ws → such w.end.entry ≡ true → any_ends such ws ≡ true
unfolding any_ends
ends_some such [] w i e = absurd (mathlib.Core.List.Memᴰ.not-nil i)
ends_some such (v ∷ ws) w i e =
    ⊎_elim (λ z. true_or (such v.end.entry) (any_ends such ws) (inl (subst (λ (x : Probe). such x.end.entry ≡ true) z e))) (λ j. true_or (such v.end.entry) (any_ends such ws) (inr (ends_some such ws w j e))) (mathlib.Core.List.Memᴰ.cases_cons i)

cuts_append : (G : Granule) (a len : ℕ) (ws vs : List Probe) → any_cut_by G a len (ws ++ vs) ≡ (any_cut_by G a len ws || any_cut_by G a len vs)
unfolding any_cut_by
cuts_append G a len [] vs = refl
cuts_append G a len (w ∷ ws) vs =
    ap (λ (y : Bool). cut_at G a len w.at w.end.left w.end.entry || y) (cuts_append G a len ws vs)
    ∙ sym (or_assoc (cut_at G a len w.at w.end.left w.end.entry) (any_cut_by G a len ws) (any_cut_by G a len vs))

or_same : (y : Bool) → (y || y) ≡ y
or_same true = refl
or_same false = refl

or_none : (y : Bool) → (y || false) ≡ y
or_none true = refl
or_none false = refl

-- walks that all say the same of a cut
pub cuts_alike : (G : Granule) (a len : ℕ) (y : Bool) (w : Probe) (ws : List Probe) → ((v : Probe) → Memᴰ v (w ∷ ws) → cut_at G a len v.at v.end.left v.end.entry ≡ y)
    → any_cut_by G a len (w ∷ ws) ≡ y
unfolding any_cut_by
cuts_alike G a len y w [] f = (λ i. f w (here refl) i || false) ∙ or_none y
cuts_alike G a len y w (v ∷ ws) f =
    (λ i. f w (here refl) i || any_cut_by G a len (v ∷ ws)) ∙ ap (λ (z : Bool). y || z) (cuts_alike G a len y v ws (λ x i. f x (there i))) ∙ or_same y

pub mem_map : {A B : Type 0} (f : A → B) (xs : List A) (z : B) → Memᴰ z (map f xs) → (x : A) × Memᴰ x xs × (z ≡ f x)
mem_map f [] z i = absurd (mathlib.Core.List.Memᴰ.not-nil i)
mem_map f (x ∷ xs) z i = ⊎_elim (λ e. (x, here refl, e)) (λ j. let (y, k, e) = mem_map f xs z j in (y, there k, e)) (mathlib.Core.List.Memᴰ.cases_cons i)

not_damaged : (e : Entry) → e ≢ Damaged → is_damaged e ≡ false
not_damaged Empty n = refl
not_damaged (Frame b k) n = refl
not_damaged (Table c) n = refl
not_damaged Damaged n = absurd (n refl)

-- the first of some pages
pub first_page : (G : Granule) (x k : ℕ) → 0 < k → (l : List ℕ) × (pages_from G x k ≡ x ∷ l)
unfolding pages_from
first_page G x zero l = absurd (omega arith)
first_page G x (suc k) l = (pages_from G (x + page_size G) k, refl)

-- ---- what is checked so far

pub record Checked (G : Granule) (p : Pool) (a len x : ℕ) (M : List ℕ) (cut : Bool) : Type 0 where
  pub pages : ℕ
  pub next_is : x ≡ a + pages * page_size G
  pub whole : x % page_size G ≡ 0
  pub long : length M ≡ 512
  pub undamaged : any_ends is_damaged (page_walks G p (pages_from G a pages)) ≡ false
  pub marked : Marked G M (on_ways G p.numbers.levels (page_walks G p (pages_from G a pages)))
  pub cut_is : any_cut_by G a len (page_walks G p (pages_from G a pages)) ≡ cut

pub checked_none : (G : Granule) (p : Pool) (a len : ℕ) (M : List ℕ) → M ≡ replicate 512 0 → length M ≡ 512 → a % page_size G ≡ 0 → Checked G p a len a M false
unfolding pages_from any_ends on_ways any_cut_by
checked_none G p a len M e l w = record {
  whole = w;
  pages = 0;
  next_is = omega arith;
  long = l;
  undamaged = refl;
  marked = subst (λ (N : List ℕ). Marked G N []) (sym e) (marked_none G 512);
  cut_is = refl;
}

-- no free list is read
pub checked_like : (G : Granule) (s : Setup) (ws : List ℕ) (cut : ℕ) (k l : List ℕ) {a len x : ℕ} {M : List ℕ} {so : Bool}
    → Checked G (pool s ws cut k) a len x M so → Checked G (pool s ws cut l) a len x M so
checked_like G s ws cut k l C =
    record { pages = C.pages; next_is = C.next_is; whole = C.whole; long = C.long; undamaged = C.undamaged; marked = C.marked; cut_is = C.cut_is }

pub says_like : (G : Granule) (s : Setup) (ws : List ℕ) (cut : ℕ) (k l : List ℕ) (a len : ℕ) → walks_say G (pool s ws cut k) a len ≡ walks_say G (pool s ws cut l) a len
unfolding walks_say
says_like G s ws cut k l a len = refl

-- ---- from walk to walk

module _ (G : Granule) (Z : Sane G) (p : Pool) (a len : ℕ) (R : Rest G p a (a + len)) where
  abbrev W : ℕ
  W = page_size G

  abbrev levels : ℕ
  levels = p.numbers.levels

  abbrev end : ℕ
  end = a + len

  few : levels ≤ 4
  few = few_levels G Z p R.good

  some : 0 < levels
  some = omega (arith, (good_setup_lem R.good).numbers.enough, Z.large_below)

  all_in : (x : ℕ) → x % W ≡ 0 → a ≤ x → x < end → Memᴰ x (pages_of G a len)
  all_in x e l m =
      let (i, q) = pages_between G a end R.starts R.ends R.left in
      let s : len ≡ i * W = omega arith in
      let k : len / W ≡ i = ap (λ (z : ℕ). z / W) s ∙ mul-div_cancel i (page_pos G) in
      subst (λ (j : ℕ). Memᴰ x (pages_from G a j)) (sym k) (pages_has G i a x R.starts e l (omega arith))

  -- damage ends it
  pub walk_spoils : (x : ℕ) → x % W ≡ 0 → a ≤ x → x < end → (walk_to G p 0 x).entry ≡ Damaged → 8 ≡ walks_say G p a len
  unfolding walks_say
  walk_spoils x e l m d =
      let s : any_ends is_damaged (page_walks G p (pages_of G a len)) ≡ true =
      ends_some is_damaged (page_walks G p (pages_of G a len)) (page_walk G p x) (mathlib.Core.List.Memᴰ.map (page_walk G p) (all_in x e l m)) (ap is_damaged d) in
      rw s

  module _ {x : ℕ} {M : List ℕ} {was : Bool} (C : Checked G p a len x M was) (m : x < end) where
    abbrev o : Walked
    o = walk_to G p 0 x

    abbrev done_walks : List Probe
    done_walks = page_walks G p (pages_from G a C.pages)

    at_low : o.left ≤ levels
    at_low = omega (arith, left_low G (area_of p.numbers) p.words 0 (path_of G x) (levels - 1) no_way 0)

    near : x < physical
    near = omega (arith, R.in_space)

    module _ (sound : o.entry ≢ Damaged) where
      tables_low : (j : ℕ) → o.left ≤ j → j < levels → at_height o.tables j < length M
      tables_low j u v =
          let t = stopped_in (walk_stopped G p few 0 x sound) (omega (arith, few, some)) refl Z (omega (arith, good_setup_lem R.good)) j u (omega (arith, some)) in
          omega (arith, t, C.long, good_setup_lem R.good)

      -- this walk's way is noted
      pub notes : Noting G (on_ways G levels (done_walks ++ (page_walk G p x ∷ []))) (note_way G M x o.tables o.left levels)
      notes = note_walk G Z levels few done_walks (page_walk G p x) C.marked at_low near tables_low

      -- a table that stands for two regions ends it
      pub clash_spoils : Clash (on_ways G levels (done_walks ++ (page_walk G p x ∷ []))) → 8 ≡ walks_say G p a len
      unfolding walks_say
      clash_spoils K =
          let s : one_region_each (on_ways G levels (page_walks G p (pages_of G a len))) ≡ false = clash_each (clash_like K inside_all) in
          let t : not (one_region_each (on_ways G levels (page_walks G p (pages_of G a len)))) ≡ true = ap not s in
          rw (true_or (any_ends is_damaged (page_walks G p (pages_of G a len))) _ (inr t))
        where
          a_le : a ≤ x
          a_le = omega (arith, C.next_is)

          page : (w : Probe) → Memᴰ w (done_walks ++ (page_walk G p x ∷ [])) → Memᴰ w (page_walks G p (pages_of G a len))
          page w i =
              ⊎_elim
              (λ j. let (y, k, e) = mem_map (page_walk G p) (pages_from G a C.pages) w j in
              let (u, v, r) = pages_from_lem G C.pages a y R.starts k in
              subst (λ (z : Probe). Memᴰ z (page_walks G p (pages_of G a len))) (sym e) (mathlib.Core.List.Memᴰ.map (page_walk G p) (all_in y r u (omega (arith, C.next_is)))))
              (λ j. ⊎_elim (λ e. subst (λ (z : Probe). Memᴰ z (page_walks G p (pages_of G a len))) (sym e) (mathlib.Core.List.Memᴰ.map (page_walk G p) (all_in x C.whole a_le m))) (λ k. absurd (mathlib.Core.List.Memᴰ.not-nil k)) (mathlib.Core.List.Memᴰ.cases_cons j))
              (mathlib.Core.List.Memᴰ.append_cases done_walks i)

          inside_all : Within (on_ways G levels (done_walks ++ (page_walk G p x ∷ []))) (on_ways G levels (page_walks G p (pages_of G a len)))
          inside_all q i =
              let (w, k, j, u, v, e) = ways_from G levels (done_walks ++ (page_walk G p x ∷ [])) q i in
              subst (λ (z : Standing). Memᴰ z (on_ways G levels (page_walks G p (pages_of G a len)))) (sym e) (ways_has G levels (page_walks G p (pages_of G a len)) w (page w k) j u v)

      -- a page is walked along the same tables, and finds no damage
      abbrev pub Like : ℕ → Type 0
      Like y =
          ((walk_to G p 0 y).tables ≡ o.tables) × ((walk_to G p 0 y).left ≡ o.left) × (x / size_at G (suc o.left) ≡ y / size_at G (suc o.left))
          × ((walk_to G p 0 y).entry ≢ Damaged)

      -- so many pages that are
      module _ (count : ℕ) (some_pages : 0 < count) (like : (y : ℕ) → Memᴰ y (pages_from G x count) → Like y)
          (cuts_so : any_cut_by G a len (page_walks G p (pages_from G x count)) ≡ cut_at G a len x o.left o.entry) where
        more_pages : pages_from G a (C.pages + count) ≡ pages_from G a C.pages ++ pages_from G x count
        more_pages = pages_append G C.pages count a ∙ ap (λ (z : ℕ). pages_from G a C.pages ++ pages_from G z count) (sym C.next_is)

        more_walks : page_walks G p (pages_from G a (C.pages + count)) ≡ done_walks ++ page_walks G p (pages_from G x count)
        more_walks = ap (page_walks G p) more_pages ∙ map_append (page_walk G p) (pages_from G a C.pages) (pages_from G x count)

        standing_same : (y j : ℕ) → o.left ≤ j → x / size_at G (suc o.left) ≡ y / size_at G (suc o.left) → standing_at G y o.tables j ≡ standing_at G x o.tables j
        standing_same y j u e =
            ap (λ (b : ℕ). standing (at_height o.tables j) (region (size_at G (suc j)) b)) (region_base G y x (suc j) (sym (region_above G {j = suc o.left} {h = suc j} (omega arith) x y e)))

        -- the standings of all of them are this walk's
        within_one : Within (on_ways G levels (page_walks G p (pages_from G x count))) (on_ways G levels (page_walk G p x ∷ []))
        within_one q i =
            let (w, k, j, u, v, e) = ways_from G levels (page_walks G p (pages_from G x count)) q i in
            let (y, n, z) = mem_map (page_walk G p) (pages_from G x count) w k in
            by q w y j e n z u v
          where
            by : (q : Standing) (w : Probe) (y j : ℕ) → q ≡ standing_at G w.at w.end.tables j → Memᴰ y (pages_from G x count) → w ≡ page_walk G p y → w.end.left ≤ j → j < levels
                → Memᴰ q (on_ways G levels (page_walk G p x ∷ []))
            by q w y j e n z u v =
                let (t, h, r, _) = like y n in
                let low : o.left ≤ j = subst (λ (k : ℕ). k ≤ j) h (subst (λ (s : Probe). s.end.left ≤ j) z u) in
                let s : q ≡ standing_at G x o.tables j =
                e ∙ ap (λ (s : Probe). standing_at G s.at s.end.tables j) z ∙ ap (λ (l : List ℕ). standing_at G y l j) t ∙ standing_same y j low r in
                subst (λ (s : Standing). Memᴰ s (on_ways G levels (page_walk G p x ∷ []))) (sym s) (ways_has G levels (page_walk G p x ∷ []) (page_walk G p x) (here refl) j low v)

        one_within : Within (on_ways G levels (page_walk G p x ∷ [])) (on_ways G levels (page_walks G p (pages_from G x count)))
        one_within q i =
            let (w, k, j, u, v, e) = ways_from G levels (page_walk G p x ∷ []) q i in
            let z : w ≡ page_walk G p x = ⊎_elim (λ z. z) (λ n. absurd (mathlib.Core.List.Memᴰ.not-nil n)) (mathlib.Core.List.Memᴰ.cases_cons k) in
            let (l, f) = first_page G x count some_pages in
            subst (λ (s : Standing). Memᴰ s (on_ways G levels (page_walks G p (pages_from G x count)))) (sym e)
            (ways_has G levels (page_walks G p (pages_from G x count)) w (subst (λ (s : List ℕ). Memᴰ w (page_walks G p s)) (sym f) (here z)) j u v)

        beside : (l r s : List Standing) → Within r s → Within (l ++ r) (l ++ s)
        beside l r s f q i = ⊎_elim (λ j. mathlib.Core.List.Memᴰ.append_left s j) (λ j. mathlib.Core.List.Memᴰ.append_right l (f q j)) (mathlib.Core.List.Memᴰ.append_cases l i)

        pub checks_some : {N : List ℕ} → length N ≡ 512 → Marked G N (on_ways G levels (done_walks ++ (page_walk G p x ∷ []))) → {now : Bool} → (was || cut_at G a len x o.left o.entry) ≡ now
            → Checked G p a len (x + count * W) N now
        checks_some {N} long K {now} e = record {
          pages = C.pages + count;
          next_is = omega (arith, C.next_is, add-mul C.pages count W);
          whole = pages_whole G count x C.whole;
          long = long;
          undamaged = ap (any_ends is_damaged) more_walks ∙ ends_append is_damaged done_walks (page_walks G p (pages_from G x count))
              ∙ false_or C.undamaged (ends_none is_damaged (page_walks G p (pages_from G x count)) (λ w i.
              let (y, n, z) = mem_map (page_walk G p) (pages_from G x count) w i in
              ap (λ (s : Probe). is_damaged s.end.entry) z ∙ not_damaged (walk_to G p 0 y).entry (like y n).3));
          marked = subst (λ (l : List Probe). Marked G N (on_ways G levels l)) (sym more_walks)
              (subst (Marked G N) (sym (on_ways_append G levels done_walks (page_walks G p (pages_from G x count))))
              (marked_like (subst (Marked G N) (on_ways_append G levels done_walks (page_walk G p x ∷ [])) K)
              (beside (on_ways G levels done_walks) (on_ways G levels (page_walk G p x ∷ [])) (on_ways G levels (page_walks G p (pages_from G x count))) one_within)
              (beside (on_ways G levels done_walks) (on_ways G levels (page_walks G p (pages_from G x count))) (on_ways G levels (page_walk G p x ∷ [])) within_one)));
          cut_is = ap (any_cut_by G a len) more_walks ∙ cuts_append G a len done_walks (page_walks G p (pages_from G x count))
              ∙ (λ i. C.cut_is i || cuts_so i) ∙ e;
        }

      -- the pages up to where the walk's region ends are
      module _ {next : ℕ} (E : Ends G x o.left end next) where
        abbrev count : ℕ
        count = (pages_between G x next C.whole E.whole (omega (arith, E.further))).0

        count_is : next ≡ x + count * W
        count_is = (pages_between G x next C.whole E.whole (omega (arith, E.further))).1

        same_region : (y : ℕ) → Memᴰ y (pages_from G x count) → x / size_at G o.left ≡ y / size_at G o.left
        same_region y i =
            let (u, v, _) = pages_from_lem G count x y C.whole i in
            base_region G x y o.left (sym (base_inside G (base_at G x o.left) y o.left (base_aligned G x o.left) (omega (arith, base_le G x o.left)) (omega (arith, E.in_region, count_is))))

        alike : (y : ℕ) → Memᴰ y (pages_from G x count) → walk_to G p 0 y ≡ o
        alike y i = walk_region G p few 0 x y (omega arith) sound (same_region y i)

        like_this : (y : ℕ) → Memᴰ y (pages_from G x count) → Like y
        like_this y i = (
          ap (λ (s : Walked). s.tables) (alike y i),
          ap (λ (s : Walked). s.left) (alike y i),
          region_above G {j = o.left} {h = suc o.left} (omega arith) x y (same_region y i),
          λ z. sound (ap (λ (s : Walked). s.entry) (sym (alike y i)) ∙ z),
        )

        -- what they say of a cut
        cuts_so : any_cut_by G a len (page_walks G p (pages_from G x count)) ≡ cut_at G a len x o.left o.entry
        cuts_so =
            let (l, f) = first_page G x count (pages_some G count count_is E.further) in
            ap (λ (s : List ℕ). any_cut_by G a len (page_walks G p s)) f
            ∙ cuts_alike G a len (cut_at G a len x o.left o.entry) (page_walk G p x) (page_walks G p l) (λ v i.
            let (y, n, z) = mem_map (page_walk G p) (x ∷ l) v i in
            ap (λ (s : Probe). cut_at G a len s.at s.end.left s.end.entry) z
            ∙ ap (λ (s : Walked). cut_at G a len y s.left s.entry) (alike y (subst (Memᴰ y) (sym f) n))
            ∙ same_cut y (same_region y (subst (Memᴰ y) (sym f) n)) o.entry)
          where
            same_cut : (y : ℕ) → x / size_at G o.left ≡ y / size_at G o.left → (e : Entry) → cut_at G a len y o.left e ≡ cut_at G a len x o.left e
            same_cut y r (Frame b k) = ap (λ (z : ℕ). not (inside a len z (size_at G o.left))) (region_base G y x o.left (sym r))
            same_cut y r Empty = refl
            same_cut y r (Table c) = refl
            same_cut y r Damaged = refl

        pub checks_on : {N : List ℕ} → length N ≡ 512 → Marked G N (on_ways G levels (done_walks ++ (page_walk G p x ∷ []))) → {now : Bool} → (was || cut_at G a len x o.left o.entry) ≡ now
            → Checked G p a len next N now
        checks_on {N} long K {now} e = subst (λ (z : ℕ). Checked G p a len z N now) (sym count_is) (checks_some count (pages_some G count count_is E.further) like_this cuts_so long K e)

  -- all are checked
  pub checked_all : {x : ℕ} {M : List ℕ} {cut : Bool} → Checked G p a len x M cut → x ≡ end → cond cut 10 0 ≡ walks_say G p a len
  unfolding walks_say
  checked_all {x} {M} {cut} C e =
      let s : len ≡ C.pages * W = omega (arith, C.next_is) in
      let k : len / W ≡ C.pages = ap (λ (z : ℕ). z / W) s ∙ mul-div_cancel C.pages (page_pos G) in
      subst (λ (i : ℕ). ◌≡◌ {A = ℕ} (cond cut 10 0) (cond (spoiled G levels (page_walks G p (pages_from G a i))) 8 (cond (any_cut_by G a len (page_walks G p (pages_from G a i))) 10 0))) (sym k)
      (rw (C.undamaged, marked_each C.marked) (ap (λ (y : Bool). cond y 10 0) (sym C.cut_is)))

  -- and every table on their ways is marked
  pub checked_noted : {x : ℕ} {M : List ℕ} {cut : Bool} → Checked G p a len x M cut → x ≡ end → AllNoted G p a len M
  checked_noted {x} {M} {cut} C e y i j u v z =
      let s : len ≡ C.pages * W = omega (arith, C.next_is) in
      let k : len / W ≡ C.pages = ap (λ (z : ℕ). z / W) s ∙ mul-div_cancel C.pages (page_pos G) in
      let m : Memᴰ y (pages_from G a C.pages) = subst (λ (n : ℕ). Memᴰ y (pages_from G a n)) k i in
      let S = C.marked.shown (standing_at G y (walk_to G p 0 y).tables j) (ways_has G levels (page_walks G p (pages_from G a C.pages)) (page_walk G p y) (mathlib.Core.List.Memᴰ.map (page_walk G p) m) j u v) in
      omega (arith, S.mark, z)

-- what the code has of a cut
pub cuts_lem : (G : Granule) (a len x : ℕ) {o : Walked} {frame : Bool} {left : ℕ} {way : List ℕ} → Meets o frame left way
    → cut_at G a len x o.left o.entry ≡ cuts frame (base_at G x o.left) (size_at G o.left) a (a + len)
cuts_lem G a len x {o} {frame} K = go frame refl
  where
    b : ℕ
    b = base_at G x o.left

    s : ℕ
    s = size_at G o.left

    cut : Dec (b < a) → Dec (a + len < b + s) → not (inside a len b s) ≡ (ltb b a || ltb (a + len) (b + s))
    cut (yes u) v = rw (lt-leb a b u, lt-ltb b a u)
    cut (no u) (yes v) = rw (le-leb a b (omega arith), le-ltb b a (omega arith), lt-leb (b + s) (a + len) v, lt-ltb (a + len) (b + s) v)
    cut (no u) (no v) = rw (le-leb a b (omega arith), le-ltb b a (omega arith), le-leb (b + s) (a + len) (omega arith), le-ltb (a + len) (b + s) (omega arith))

    go : (y : Bool) → frame ≡ y → cut_at G a len x o.left o.entry ≡ cuts y b s a (a + len)
    go false e = ap (cut_at G a len x o.left) (K.empty e)
    go true e = let (f, k, q) = K.framed e in ap (cut_at G a len x o.left) q ∙ cut (dec_lt b a) (dec_lt (a + len) (b + s))

-- a walk that met a hole or a frame met no damage
pub met_sound : {o : Walked} {frame : Bool} {left : ℕ} {way : List ℕ} → Meets o frame left way → o.entry ≢ Damaged
met_sound {o} {frame} K d = go frame refl
  where
    go : (y : Bool) → frame ≡ y → ⊥
    go false e = let q = K.empty e in clash (cc)
    go true e = let (b, k, q) = K.framed e in clash (cc)

-- a turn of the check, by what the code has of it
module _ (G : Granule) (Z : Sane G) (p : Pool) (a len : ℕ) (R : Rest G p a (a + len)) {x : ℕ} {M : List ℕ} {was : Bool} (C : Checked G p a len x M was) (more : x < a + len) where
  abbrev walk : Walked
  walk = walk_to G p 0 x

  pub turn_damaged : walk.entry ≡ Damaged → 8 ≡ walks_say G p a len
  turn_damaged d = walk_spoils G Z p a len R x C.whole (omega (arith, C.next_is)) more d

  module _ {frame : Bool} {left : ℕ} {way : List ℕ} (K : Meets walk frame left way) where
    pub noting : Noting G (on_ways G p.numbers.levels (page_walks G p (pages_from G a C.pages) ++ (page_walk G p x ∷ []))) (note_way G M x way left p.numbers.levels)
    noting =
        subst (Noting G (on_ways G p.numbers.levels (page_walks G p (pages_from G a C.pages) ++ (page_walk G p x ∷ []))))
        ((λ i. note_way G M x (K.tables_are i) (K.left_is i) p.numbers.levels)) (notes G Z p a len R C more (met_sound K))

    pub turn_clash : {N : List ℕ} → noted false N ≡ note_way G M x way left p.numbers.levels → 8 ≡ walks_say G p a len
    turn_clash {N} e = go (note_way G M x way left p.numbers.levels) noting e
      where
        go : (n : Noted) → Noting G (on_ways G p.numbers.levels (page_walks G p (pages_from G a C.pages) ++ (page_walk G p x ∷ []))) n → noted false N ≡ n → 8 ≡ walks_say G p a len
        go n (agreed Q) e = clash (cc (ap (λ (y : Noted). y.fine) e))
        go n (clashes Q) e = clash_spoils G Z p a len R C more (met_sound K) Q

    pub turn_on : {N : List ℕ} → length N ≡ length M → noted true N ≡ note_way G M x way left p.numbers.levels
        → {now : Bool} → (was || cut_at G a len x walk.left walk.entry) ≡ now → Checked G p a len (until_end G x left (a + len)) N now × (x < until_end G x left (a + len)) × (until_end G x left (a + len) ≤ a + len)
    turn_on {N} long e {now} d =
        let E : Ends G x walk.left (a + len) (until_end G x left (a + len)) =
        subst (λ (h : ℕ). Ends G x walk.left (a + len) (until_end G x h (a + len))) K.left_is (ends_at G x walk.left (a + len) more R.ends) in
        (go (note_way G M x way left p.numbers.levels) noting e E, E.further, E.in_range)
      where
        go : (n : Noted) → Noting G (on_ways G p.numbers.levels (page_walks G p (pages_from G a C.pages) ++ (page_walk G p x ∷ []))) n → noted true N ≡ n
            → {next : ℕ} → Ends G x walk.left (a + len) next → Checked G p a len next N now
        go n (agreed Q) e E =
            checks_on G Z p a len R C more (met_sound K) E (long ∙ C.long) (subst (λ (y : List ℕ). Marked G y (on_ways G p.numbers.levels (page_walks G p (pages_from G a C.pages) ++ (page_walk G p x ∷ [])))) (sym (ap (λ (y : Noted). y.marks) e)) Q) d
        go n (clashes Q) e E = clash (cc (ap (λ (y : Noted). y.fine) e))
