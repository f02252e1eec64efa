-- What an accepted call has found, on any pool; that its single writes are what it does to the lent memory; and the ledger after it, by its answer.
use Rattle.std.specs.Prelude.{◌≡◌, ltb, eqb, drop, replicate}
use Rattle.std.proofs.Math.Path.{refl, ap, sym}
use Rattle.std.proofs.Common.{◌∙◌, subst, arith, drop_of_length-le, ltb-false, eqb-true}
use Rattle.std.proofs.Math.Bool.{Bool, true, false, cond}
use mathlib.Core.List.{List, [], ◌∷◌, ◌++◌, append-nil}
use Rattle.std.proofs.Math.Option.{Option, some, none}
use Prim.Native.Nat.{ℕ, ◌+◌, ◌-◌, ◌*◌, ◌%◌, ◌≤◌}
use Rattle.std.proofs.Math.Nat.{mul-add}
use Rattle.std.proofs.Math.ListN.{length, take, length-drop}
use Rattle.laws.specs.Lists.{zeroed, down}
use Rattle.laws.specs.ListLaws.{zeroed_is}
use Rattle.path.specs.Geometry.{Granule, entries, size_at, height_of}
use Rattle.path.specs.Areas.{Area, area_of, one_region, with_second, total}
use Rattle.path.specs.Numbers.{no_setup, setup_of, good_numbers, good_adding, GoodNumbers, GoodAdding}
use Rattle.path.specs.Laws.{good_numbers_lem, good_setup_lem}
use Rattle.path.specs.Paths.{base_at, path_of}
use Rattle.entry.specs.Words.{frame_word}
use Rattle.entry.specs.declared.Entry.{Entry}
use Rattle.entry.specs.declared.Entry.TheVariants.{Empty, Table, Frame, Damaged}
use Rattle.model.specs.declared.Walked.{Walked}
use Rattle.model.specs.Answers.{Mapping, mapping, formatted, added, took, gave, cleared, refusal, refused, accepts, tables_in, Pool, pool, Done, done, refuse}
use Rattle.model.specs.Walk.{at_height}
use Rattle.model.specs.Writes.{Write, memory, perform_all, map_writes, may_take, freed, unmap_writes}
use Rattle.model.specs.Calls.{good_pool, written, walk_to, format_w, map_tests, map_here, map_at, map_w, unmap_tests, unmap_here, unmap_at, unmap_w}
use Rattle.model.specs.Ledger.{Ledger, ledger, with_live, any_overlap, cover_of, drop_at, free_tables, tables_needed, tables_lacking}
use Rattle.model.specs.Ledger.{Entered, entered, format_l, add_l, map_l, unmap_of, unmap_l}
use Rattle.model.specs.Audit.{none_inside}
use Rattle.model.specs.Adds.{lent, grown}
use Rattle.model.proofs.AddLaws.{add_view, may_add}
use Rattle.model.specs.AddLaws.{AddView, add_grows, add_refuses}
use Rattle.model.specs.Ranges.{map_range_tests, unmap_range_tests, pieces, pages_of, map_piece, left_by, gain, gain_of, map_range_l, any_cut, drop_in, clear_of, unmap_range_l}
use Rattle.model.proofs.LeftLaws.{perform_append}
use Rattle.model.proofs.RangeMapped.{map_range_view}
use Rattle.model.specs.RangeMapped.{MapRangeView, range_takes, range_refuses}
use Rattle.model.proofs.RangeUnmapLaws.{unmap_range_view}
use Rattle.model.specs.RangeUnmapped.{UnmapRangeView, range_clears, range_stays}
use Rattle.demand.specs.Demand3.{Call, format_c, add_c, map_c, unmap_c, map_range_c, unmap_range_c, ask_c, ask_w, go_on, go_back, step_w}
use Rattle.hardware.specs.Machine.{zeros_from, places_from, places_above, map_plan, unmap_plan, plan_each, plan, writes_of, written_to, memory_of}
use Rattle.hardware.proofs.Plans.{InRange, zeros_carried, singles_carried, places_carried, above_carried, map_range, prune_range}
use Rattle.hardware.specs.Plans.{Each}

-- the single writes of a call that came to d
abbrev writes_by : Granule → Pool → Call → Done → List Write
writes_by G p c d = cond (accepts d.answer) (plan G p c (tables_in d.answer)) []

-- carried out, they leave what it left
abbrev Carries : Granule → Pool → Call → Done → Type 0
Carries G p c d = perform_all G (writes_by G p c d) (memory p.words p.list) ≡ memory d.after.words d.after.list

-- a call that changes nothing writes nothing, whatever it answers
pub no_write : (b : Bool) → ◌≡◌ {A = List Write} (cond b [] []) []
no_write true = refl
no_write false = refl

module _ (G : Granule) (p : Pool) where
  abbrev f : ℕ
  f = p.numbers.free

  -- ---- map

  module _ (a b size k : ℕ) where
    abbrev g : ℕ
    g = height_of G size

    abbrev o : Walked
    o = walk_to G p g a

    abbrev need : ℕ
    need = o.left - g

    abbrev planned : List Write
    planned =
        map_writes G (area_of p.numbers) (path_of G a) p.list g (frame_word b g k) (at_height o.tables o.left) f need

    -- an accepted map: no test refuses, the walk ended at an empty entry, and there are tables to take
    pub record Took : Type 0 where
      pub good : good_pool G p ≡ true
      pub tests : map_tests G p.numbers.levels (area_of p.numbers) a b size k ≡ 0
      pub vacant : o.entry ≡ Empty
      pub room : need ≤ f
      pub may : may_take p.list (total (area_of p.numbers)) o.tables f need ≡ true

    abbrev taking : Done
    taking = done (took need) (written G p planned (f - need))

    -- what a map comes to
    pub data MapView : Done → Type 0 where
      map_takes : Took → MapView taking
      map_refuses : (n : ℕ) → MapView (refuse n p)

    pub map_view : MapView (map_w G p a b size k)
    unfolding map_w map_at map_here
    map_view = first (good_pool G p) refl
      where
        no : ℕ
        no = map_tests G p.numbers.levels (area_of p.numbers) a b size k

        may : Bool
        may = may_take p.list (total (area_of p.numbers)) o.tables f need

        last : good_pool G p ≡ true → no ≡ 0 → o.entry ≡ Empty → need ≤ f → (y : Bool) → may ≡ y → MapView (cond y taking (refuse 8 p))
        last q r e l true s = map_takes (record { good = q; tests = r; vacant = e; room = l; may = s })
        last q r e l false s = map_refuses 8

        third : good_pool G p ≡ true → no ≡ 0 → o.entry ≡ Empty → (y : Bool) → ltb f need ≡ y
            → MapView (cond y (refuse 7 p) (cond may taking (refuse 8 p)))
        third q r e true s = map_refuses 7
        third q r e false s = last q r e (ltb-false f need s) may refl

        at : good_pool G p ≡ true → no ≡ 0 → (e : Entry) → o.entry ≡ e → MapView (map_at G p a b g k o e)
        at q r Empty e = third q r e (ltb f need) refl
        at q r (Frame c d) e = map_refuses 6
        at q r (Table c) e = map_refuses 6
        at q r Damaged e = map_refuses 8

        second : good_pool G p ≡ true → (y : Bool) → eqb no 0 ≡ y → MapView (cond y (map_at G p a b g k o o.entry) (refuse no p))
        second q true r = at q (eqb-true no 0 r) o.entry refl
        second q false r = map_refuses no

        first : (y : Bool) → good_pool G p ≡ y → MapView (cond y (cond (eqb no 0) (map_at G p a b g k o o.entry) (refuse no p)) (refuse 1 p))
        first true q = second q (eqb no 0) refl
        first false q = map_refuses 1

    pub map_carries : (d : Done) → MapView d → Carries G p (map_c a b size k) d
    unfolding perform_all
    map_carries d (map_takes T) =
        let long = sym (good_setup_lem T.good).numbers.words_are in
        singles_carried G planned (memory p.words p.list)
        (subst (λ (n : ℕ). Each (InRange G n) planned) long (map_range G (area_of p.numbers) (path_of G a) p.list g (frame_word b g k) need _ f o.tables T.may))
    map_carries d (map_refuses n) = refl

  -- ---- unmap

  module _ (a : ℕ) where
    abbrev o₀ : Walked
    o₀ = walk_to G p 0 a

    -- the tables that it gives back
    abbrev pub given : ℕ
    given = freed G p.words o₀.tables (path_of G a) o₀.left (p.numbers.levels - 1 - o₀.left)

    abbrev planned₀ : List Write
    planned₀ = unmap_writes G o₀.tables (path_of G a) o₀.left f given

    -- an accepted unmap: no test refuses, and the walk ended at a frame whose mapping starts at the address
    pub record Gave (b k : ℕ) : Type 0 where
      pub good : good_pool G p ≡ true
      pub tests : unmap_tests G p.numbers.levels a ≡ 0
      pub framed : o₀.entry ≡ Frame b k
      pub starts : a % size_at G o₀.left ≡ 0

    abbrev giving : ℕ → ℕ → Done
    giving b k = done (gave b (size_at G o₀.left) k given) (written G p planned₀ (f + given))

    -- what an unmap comes to
    pub data UnmapView : Done → Type 0 where
      unmap_gives : (b k : ℕ) → Gave b k → UnmapView (giving b k)
      unmap_refuses : (n : ℕ) (v : List ℕ) → UnmapView (done (refusal n v) p)

    pub unmap_view : UnmapView (unmap_w G p a)
    unfolding unmap_w unmap_at unmap_here
    unmap_view = first (good_pool G p) refl
      where
        no : ℕ
        no = unmap_tests G p.numbers.levels a

        room : (b k : ℕ) → Gave b k → (y : Bool) → UnmapView (cond y (refuse 8 p) (giving b k))
        room b k R true = unmap_refuses 8 []
        room b k R false = unmap_gives b k R

        start : (b k : ℕ) → good_pool G p ≡ true → no ≡ 0 → o₀.entry ≡ Frame b k → (y : Bool) → eqb (a % size_at G o₀.left) 0 ≡ y
            → UnmapView (cond y (unmap_here G p a b k o₀ given) (refuse 10 p))
        start b k q r e true s =
            room b k (record { good = q; tests = r; framed = e; starts = eqb-true _ 0 s }) (ltb (total (area_of p.numbers) - 1) (f + given))
        start b k q r e false s = unmap_refuses 10 []

        at : good_pool G p ≡ true → no ≡ 0 → (e : Entry) → o₀.entry ≡ e → UnmapView (unmap_at G p a o₀ e)
        at q r (Frame b k) e = start b k q r e (eqb (a % size_at G o₀.left) 0) refl
        at q r Empty e = unmap_refuses 9 (base_at G a o₀.left ∷ size_at G o₀.left ∷ [])
        at q r (Table c) e = unmap_refuses 8 []
        at q r Damaged e = unmap_refuses 8 []

        second : good_pool G p ≡ true → (y : Bool) → eqb no 0 ≡ y → UnmapView (cond y (unmap_at G p a o₀ o₀.entry) (refuse no p))
        second q true r = at q (eqb-true no 0 r) o₀.entry refl
        second q false r = unmap_refuses no []

        first : (y : Bool) → good_pool G p ≡ y → UnmapView (cond y (cond (eqb no 0) (unmap_at G p a o₀ o₀.entry) (refuse no p)) (refuse 1 p))
        first true q = second q (eqb no 0) refl
        first false q = unmap_refuses 1 []

    pub unmap_carries : (d : Done) → UnmapView d → Carries G p (unmap_c a) d
    unfolding perform_all
    unmap_carries d (unmap_gives b k R) =
        singles_carried G planned₀ (memory p.words p.list) (tt, prune_range G (length p.words) o₀.tables (path_of G a) given o₀.left f)
    unmap_carries d (unmap_refuses n v) = refl

  -- ---- format

  module _ (levels : ℕ) (area : Area) where
    abbrev zeros : List ℕ
    zeros = replicate (length p.words) 0

    abbrev formatting : Done
    formatting = done formatted (pool (setup_of G levels area (total area - 1)) zeros p.cut (down (total area)))

    -- what a format comes to
    pub data FormatView : Done → Type 0 where
      format_clears : GoodNumbers G levels area p.cut (length p.words) (length p.list) → FormatView formatting
      format_refuses : FormatView (done (refused 1) p)

    pub format_view : FormatView (step_w G p (format_c levels area))
    unfolding format_w
    format_view = go (good_numbers G levels area p.cut (length p.words) (length p.list)) refl
      where
        came : Bool → Done
        came y = cond y formatting (refuse 1 (pool no_setup p.words p.cut p.list))

        go : (y : Bool) → good_numbers G levels area p.cut (length p.words) (length p.list) ≡ y → FormatView (go_on p (came y) (came y).answer)
        go true e = format_clears (good_numbers_lem e)
        go false e = format_refuses

    all_zero_lem : zeroed p.words 0 (length p.words) ≡ zeros
    all_zero_lem =
        zeroed_is p.words 0 (length p.words) (omega arith)
        ∙ ap (λ (l : List ℕ). zeros ++ l) (drop_of_length-le p.words {i = length p.words} (omega arith))
        ∙ append-nil zeros

    pub format_carries : (d : Done) → FormatView d → Carries G p (format_c levels area) d
    unfolding perform_all
    format_carries d (format_clears N) =
        let first = zeros_carried G (length p.words) 0 p.words p.list (omega arith) ∙ ap (λ (ws : List ℕ). memory ws p.list) all_zero_lem in
        perform_append G (zeros_from 0 (length p.words)) (places_from 0 (total area)) (memory p.words p.list)
        ∙ ap (perform_all G (places_from 0 (total area))) first
        ∙ places_carried G (total area) 0 zeros p.list (omega (arith, N.places_are))
    format_carries d format_refuses = refl

  -- ---- add

  module _ (q m : ℕ) (second rest : List ℕ) where
    abbrev p₁ : Pool
    p₁ = lent p second rest

    add_carries : (d : Done) → AddView G p₁ q m d
        → (let e = go_back p d d.answer in
        let r = written_to p (add_c q m second rest) e.answer in
        perform_all G (writes_by G p (add_c q m second rest) e) (memory r.words r.list) ≡ memory e.after.words e.after.list)
    unfolding perform_all
    add_carries d (add_refuses k) = refl
    add_carries d (add_grows a b c) = grows (may_add G p₁ q m a).0
      where
        grows : GoodAdding G p.numbers.levels (area_of p.numbers) q m p.cut (length p₁.words) (length p₁.list)
            → perform_all G (zeros_from p.cut (entries G * m) ++ places_above p.numbers.tables p.numbers.free m) (memory p₁.words p₁.list)
            ≡ memory (grown G p₁ q m).words (grown G p₁ q m).list
        grows g =
            let N = g.numbers in
            let s = mul-add (entries G) p.numbers.tables m in
            let w : p.cut + entries G * m ≡ length p₁.words = omega (arith, N.cut_is, N.words_are) in
            let zeroes : zeroed p₁.words p.cut (entries G * m) ≡ (grown G p₁ q m).words =
            zeroed_is p₁.words p.cut (entries G * m) (omega arith)
            ∙ ap (λ (l : List ℕ). take p.cut p₁.words ++ (replicate (entries G * m) 0 ++ l))
            (drop_of_length-le (drop p.cut p₁.words) {i = entries G * m} (omega (arith, length-drop p.cut p₁.words)))
            ∙ ap (λ (l : List ℕ). take p.cut p₁.words ++ l) (append-nil (replicate (entries G * m) 0)) in
            perform_append G (zeros_from p.cut (entries G * m)) (places_above p.numbers.tables p.numbers.free m) (memory p₁.words p₁.list)
            ∙ ap (perform_all G (places_above p.numbers.tables p.numbers.free m))
            (zeros_carried G (entries G * m) p.cut p₁.words p₁.list (omega arith) ∙ ap (λ (ws : List ℕ). memory ws p₁.list) zeroes)
            ∙ above_carried G p.numbers.tables m p.numbers.free (grown G p₁ q m).words p₁.list
            (omega (arith, N.places_are, (may_add G p₁ q m a).1, g.one_yet.1))

-- ---- ranges

-- calls made one after the other: their single writes leave what they leave
each_carries : (G : Granule) {A : Type 0} (call : Pool → A → Done) (plans : Pool → A → ℕ → List Write)
    → ((p : Pool) (x : A) → let d = call p x in
    perform_all G (cond (accepts d.answer) (plans p x (tables_in d.answer)) []) (memory p.words p.list) ≡ memory d.after.words d.after.list)
    → (p : Pool) (xs : List A)
    → perform_all G (plan_each call plans p xs) (memory p.words p.list) ≡ memory (left_by call p xs).words (left_by call p xs).list
unfolding perform_all plan_each left_by
each_carries G call plans f p [] = refl
each_carries G call plans f p (x ∷ xs) =
    let d = call p x in
    perform_append G (cond (accepts d.answer) (plans p x (tables_in d.answer)) []) (plan_each call plans d.after xs) (memory p.words p.list)
    ∙ ap (perform_all G (plan_each call plans d.after xs)) (f p x) ∙ each_carries G call plans f d.after xs

pub unmaps_carried : (G : Granule) (p : Pool) (xs : List ℕ)
    → perform_all G (plan_each (unmap_w G) (unmap_plan G) p xs) (memory p.words p.list) ≡ memory (left_by (unmap_w G) p xs).words (left_by (unmap_w G) p xs).list
unmaps_carried G p xs = each_carries G (unmap_w G) (unmap_plan G) (λ p x. unmap_carries G p x _ (unmap_view G p x)) p xs

module _ (G : Granule) (p : Pool) where
  map_range_carries : (a b len k : ℕ) (d : Done) → MapRangeView G p a b len k d → Carries G p (map_range_c a b len k) d
  unfolding perform_all
  map_range_carries a b len k d (range_takes B) =
      each_carries G (map_piece G) (map_plan G) (λ p m. map_carries G p m.at m.frame m.size m.attributes _ (map_view G p m.at m.frame m.size m.attributes)) p (pieces G a b len k)
  map_range_carries a b len k d (range_refuses j) = refl

  unmap_range_carries : (a len : ℕ) (d : Done) → UnmapRangeView G p a len d → Carries G p (unmap_range_c a len) d
  unfolding perform_all
  unmap_range_carries a len d (range_clears B) = unmaps_carried G p (pages_of G a len)
  unmap_range_carries a len d (range_stays j) = refl

  -- a call's single writes are what it does to the lent memory, whatever the pool
  pub writes_carried : (c : Call)
      → perform_all G (writes_of G p c) (memory (memory_of G p c).words (memory_of G p c).list) ≡ memory (step_w G p c).after.words (step_w G p c).after.list
  unfolding perform_all
  writes_carried (format_c levels area) = format_carries G p levels area _ (format_view G p levels area)
  writes_carried (add_c q m second rest) = add_carries G p q m second rest _ (add_view G (lent p second rest) q m)
  writes_carried (map_c a b size k) = map_carries G p a b size k _ (map_view G p a b size k)
  writes_carried (unmap_c a) = unmap_carries G p a _ (unmap_view G p a)
  writes_carried (map_range_c a b len k) = map_range_carries a b len k _ (map_range_view G p a b len k)
  writes_carried (unmap_range_c a len) = unmap_range_carries a len _ (unmap_range_view G p a len)
  writes_carried (ask_c q) = ap (λ (ws : List Write). perform_all G ws (memory p.words p.list)) (no_write (accepts (ask_w G p q)))

-- ---- the ledger after a call, by its answer

-- the mappings are M where the answer is no refusal, and those of A where it is
abbrev By : Ledger → List Mapping → Entered → Type 0
By A M e = e.after.live ≡ cond (accepts e.answer) M A.live

-- by either of two
by : (A : Ledger) (M : List Mapping) (b : Bool) (x y : Entered) → By A M x → By A M y → By A M (cond b x y)
by A M true x y p q = p
by A M false x y p q = q

module _ (G : Granule) (A : Ledger) where
  pub map_live : (a b size k : ℕ) → By A (mapping a b size k ∷ A.live) (map_l G A a b size k)
  unfolding map_l
  map_live a b size k = by A M (eqb no 0) other (entered (refused no) A) (by A M met six rest refl (by A M short seven taken refl refl)) refl
    where
      no : ℕ
      no = map_tests G A.levels A.area a b size k

      need : ℕ
      need = tables_lacking G A.levels A.live (mapping a b size k)

      M : List Mapping
      M = mapping a b size k ∷ A.live

      met : Bool
      met = any_overlap a size A.live

      short : Bool
      short = ltb (free_tables G A) need

      six : Entered
      six = entered (refused 6) A

      seven : Entered
      seven = entered (refused 7) A

      taken : Entered
      taken = entered (took need) (with_live A M)

      rest : Entered
      rest = cond short seven taken

      other : Entered
      other = cond met six rest

  pub unmap_live : (a : ℕ) → By A (drop_at a A.live) (unmap_l G A a)
  unfolding unmap_l unmap_of
  unmap_live a = by A M (eqb no 0) (unmap_of G A a (cover_of a A.live)) (entered (refused no) A) (on (cover_of a A.live)) refl
    where
      no : ℕ
      no = unmap_tests G A.levels a

      M : List Mapping
      M = drop_at a A.live

      on : (m : Option Mapping) → By A M (unmap_of G A a m)
      on none = refl
      on (some m) =
          let B = with_live A M in
          let given = free_tables G B - free_tables G A in
          by A M (eqb m.at a) (entered (gave m.frame m.size m.attributes given) B) (entered (refused 10) A) refl refl

  pub map_range_live : (a b len k : ℕ) → By A (gain (pieces G a b len k) A.live) (map_range_l G A a b len k)
  unfolding map_range_l gain_of
  map_range_live a b len k =
      let no = map_range_tests G A.levels A.area a b len k in
      let M = gain (pieces G a b len k) A.live in
      let need = tables_needed G A.levels M - tables_needed G A.levels A.live in
      let taken = entered (took need) (with_live A M) in
      let rest = cond (ltb (free_tables G A) need) (entered (refused 7) A) taken in
      by A M (eqb no 0) (cond (any_overlap a len A.live) (entered (refused 6) A) rest) (entered (refused no) A)
      (by A M (any_overlap a len A.live) (entered (refused 6) A) rest refl (by A M (ltb (free_tables G A) need) (entered (refused 7) A) taken refl refl))
      refl

  pub unmap_range_live : (a len : ℕ) → By A (drop_in a len A.live) (unmap_range_l G A a len)
  unfolding unmap_range_l clear_of
  unmap_range_live a len =
      let no = unmap_range_tests G A.levels a len in
      let M = drop_in a len A.live in
      let gone = entered (cleared (length A.live - length M) (free_tables G (with_live A M) - free_tables G A)) (with_live A M) in
      by A M (eqb no 0) (cond (any_cut a len A.live) (entered (refused 10) A) gone) (entered (refused no) A)
      (by A M (any_cut a len A.live) (entered (refused 10) A) gone refl refl) refl

  pub format_live : (levels : ℕ) (area : Area) → By A [] (format_l G A levels area)
  unfolding format_l
  format_live levels area =
      let good = good_numbers G levels area (entries G * A.area.tables) (entries G * total A.area) (total A.area) in
      by A [] good (entered formatted (ledger levels area [])) (entered (refused 1) A) refl refl

  -- an add keeps the mappings
  pub add_live : (q m second places : ℕ) → (add_l G A q m second places).after.live ≡ A.live
  unfolding add_l
  add_live q m second places = go (good_adding G A.levels A.area q m (entries G * A.area.tables) (entries G * A.area.tables + second) places) (none_inside G (one_region q m) A.live)
    where
      go : (x y : Bool) → (cond x (cond y (entered added (ledger A.levels (with_second A.area q m) A.live)) (entered (refused 11) A)) (entered (refused 1) A)).after.live ≡ A.live
      go true true = refl
      go true false = refl
      go false y = refl
