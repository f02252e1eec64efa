-- A table's mappings from an entry on: what each entry gives, and the loops over the entries.
use Prim.Native.Nat.{ℕ, zero, suc, ◌+◌, ◌-◌, ◌*◌, ◌%◌, ◌≤◌, ◌<◌}
use mathlib.Core.Path.{◌≡◌, refl, sym, ap, subst, ◌∙◌}
use mathlib.Core.Logic.{inl, inr, ⊎_elim}
use Rattle.std.proofs.Common.{Result, Ok, Err}
use mathlib.Core.List.{List, [], ◌++◌}
use native.Mathlib.Nat.{add-mul-mod_self_left, mul_comm, mul-le-mul_left, mod-lt}
use native.Mathlib.Numerals.{sub-one}
use native.Mathlib.Omega.{arith}
use lib.ListN.{length, get_or, drop, drop_of_length-le}
use lib.Seq.{drop-cons}
use Rattle.laws.specs.ListLaws.{length_part, get_d_part}
use Rattle.path.specs.Geometry.{Granule, Sane, entries, size_at, at_level, physical}
use Rattle.path.specs.Areas.{Area}
use Rattle.path.specs.Paths.{index_at, base_at}
use Rattle.path.specs.Laws.{entries_pos, size_pos, size_suc', level_some, table_ends}
use Rattle.path.specs.PathLaws.{index_below, rest_index}
use Rattle.path.specs.RegionLaws.{aligned_down, base_rest, base_inside}
use Rattle.entry.specs.Words.{child_at, entry_at}
use Rattle.entry.proofs.Laws.{entry_zero, empty_only, table_only, frame_only, entry_table, child_some, child_only}
use Rattle.entry.specs.declared.Entry.{Entry}
use Rattle.entry.specs.declared.Entry.TheVariants.{Empty, Table, Frame, Damaged}
use Rattle.model.specs.Answers.{Mapping}
use Rattle.model.specs.Walk.{slot}
use Rattle.model.specs.Audit.{table_words, of_entry, of_entries, of_table}
use Rattle.model.specs.Sound.{Each, word_at, SoundEntry, SoundTable, Rising, WellFormed}
use Rattle.model.proofs.AuditLaws.{each_nil}
use Rattle.model.proofs.MappingLaws.{rising_within, rise_entry, table_rises, well_entry, table_well}
use Rattle.model.specs.Listing.{from_on}
use Rattle.model.proofs.ListingLaws.{from_append, from_none}
use Rattle.lists.specs.Feeds.{fed, feed, OneOf, none_there, frame_there, below, SoundBelow, rest_of, SoundPages, FirstFrom, PagesFit, RunsFit, RegionFit, TableFit, EntryFit}
use Rattle.lists.proofs.Feeding.{fed_on, fed_stop, fed_none}

-- ---- a table's words

module _ (G : Granule) (ws : List ℕ) (t : ℕ) where
  pub word_is : (i : ℕ) → i < entries G → get_or (table_words G ws t) i 0 ≡ word_at G ws t i
  word_is i l = get_d_part ws (slot G t 0) (entries G) i l ∙ ap (λ (j : ℕ). get_or ws j 0) (omega arith)

module _ (G : Granule) (ws : List ℕ) (area : Area) where
  -- ---- one entry

  pub sound_entry : (h t : ℕ) → SoundTable G ws area h t → (i : ℕ) → i < entries G → SoundEntry (SoundBelow G ws area h) (entry_at G area h (word_at G ws t i))
  unfolding SoundTable SoundBelow
  sound_entry zero t s = s
  sound_entry (suc h) t s = s

  -- the table that an entry names
  pub child_mappings : (h u c w : ℕ) → 1 ≤ h → entry_at G area h w ≡ Table c → (of_entry G h u (below G ws area h) (entry_at G area h w)).mappings ≡ (of_table G ws area (h - 1) c u).mappings
  unfolding below
  child_mappings zero u c w l e = absurd (omega arith)
  child_mappings (suc h) u c w l e = rw (e, sub-one (suc h))

  pub child_sound : (h c w : ℕ) → 1 ≤ h → entry_at G area h w ≡ Table c → SoundEntry (SoundBelow G ws area h) (entry_at G area h w) → SoundTable G ws area (h - 1) c
  unfolding SoundBelow
  child_sound zero c w l e s = absurd (omega arith)
  child_sound (suc h) c w l e s = rw (sub-one (suc h)) (subst (SoundEntry (SoundBelow G ws area (suc h))) e s)

  -- an entry that names none
  pub one_of : Sane G → (h u w : ℕ) → ((c : ℕ) → entry_at G area h w ≡ Table c → ⊥) → SoundEntry (SoundBelow G ws area h) (entry_at G area h w)
      → OneOf G h u w (of_entry G h u (below G ws area h) (entry_at G area h w)).mappings
  one_of S h u w n s = go (entry_at G area h w) refl s
    where
      go : (e : Entry) → entry_at G area h w ≡ e → SoundEntry (SoundBelow G ws area h) e → OneOf G h u w (of_entry G h u (below G ws area h) e).mappings
      go Empty q s = none_there (empty_only S area h w q)
      go (Table c) q s = absurd (n c q)
      go (Frame b k) q s = let (F, e) = frame_only S area h w q in frame_there b k F e
      go Damaged q s = absurd s

  pub last_of_lem : Sane G → (u w : ℕ) → SoundEntry (SoundBelow G ws area 0) (entry_at G area 0 w) → OneOf G 0 u w (of_entry G 0 u (below G ws area 0) (entry_at G area 0 w)).mappings
  last_of_lem S u w s = one_of S 0 u w (λ c e. omega (arith, (table_only S area 0 w e).0)) s

  pub childless : Sane G → (h u w : ℕ) {c : ℕ} → c ≡ child_at G area w → c ≡ 0 → SoundEntry (SoundBelow G ws area h) (entry_at G area h w)
      → OneOf G h u w (of_entry G h u (below G ws area h) (entry_at G area h w)).mappings
  childless S h u w e z s = one_of S h u w (λ c q. let (_, l, m, n) = table_only S area h w q in omega (arith, e, z, child_some G area w c l m n)) s

  -- ---- the mappings of an entry lie in its region

  rise_below : (h c v : ℕ) → Rising v (v + size_at G h) (below G ws area h c v).mappings
  unfolding below Rising
  rise_below zero c v = omega arith
  rise_below (suc h) c v = table_rises G ws area h c v

  well_below : Sane G → (h c v : ℕ) → v % size_at G h ≡ 0 → Each (WellFormed G) (below G ws area h c v).mappings
  unfolding below
  well_below S zero c v a = each_nil (WellFormed G)
  well_below S (suc h) c v a = table_well S ws area h c v a

  -- so where the region ends at the start or before it none of them is listed
  one_before : Sane G → (start h u w : ℕ) → u % size_at G h ≡ 0 → u + size_at G h ≤ start → from_on start (of_entry G h u (below G ws area h) (entry_at G area h w)).mappings ≡ []
  one_before S start h u w a l =
      from_none start (of_entry G h u (below G ws area h) (entry_at G area h w)).mappings
      (λ m i.
      let W = well_entry S ws area h (below G ws area h) (well_below S h) u w (entry_at G area h w) refl a m i in
      let (x, y) = rising_within u (u + size_at G h) _ (rise_entry G ws area h (below G ws area h) (rise_below h) u (entry_at G area h w)) m i in
      omega (arith, y, W.sized, size_pos G W.height))

  -- ---- entry by entry

  pub table_is : (h t v : ℕ) → (of_table G ws area h t v).mappings ≡ rest_of G ws area h v (table_words G ws t) 0
  unfolding of_table below
  table_is zero t v = ap (λ (x : ℕ). (of_entries G area zero x (below G ws area zero) (table_words G ws t)).mappings) (omega arith)
  table_is (suc h) t v = ap (λ (x : ℕ). (of_entries G area (suc h) x (below G ws area (suc h)) (table_words G ws t)).mappings) (omega arith)

  module _ (h v : ℕ) (us : List ℕ) where
    abbrev pub one : ℕ → List Mapping
    one i = (of_entry G h (v + size_at G h * i) (below G ws area h) (entry_at G area h (get_or us i 0))).mappings

    pub rest_step : (i : ℕ) → i < length us → rest_of G ws area h v us i ≡ one i ++ rest_of G ws area h v us (i + 1)
    unfolding of_entries
    rest_step i l =
        ap (λ (x : List ℕ). (of_entries G area h (v + size_at G h * i) (below G ws area h) x).mappings) (drop-cons us i 0 l)
        ∙ (let z : v + size_at G h * i + size_at G h ≡ v + size_at G h * (i + 1) = omega arith in let s : suc i ≡ i + 1 = omega arith in
        λ j. one i ++ (of_entries G area h (z j) (below G ws area h) (drop (s j) us)).mappings)

    pub rest_none : (i : ℕ) → length us ≤ i → rest_of G ws area h v us i ≡ []
    unfolding of_entries
    rest_none i l = ap (λ (x : List ℕ). (of_entries G area h (v + size_at G h * i) (below G ws area h) x).mappings) (drop_of_length-le us {i = i} l)

    -- entries that end at the start or before it are passed over
    passed : Sane G → (start : ℕ) → v % size_at G h ≡ 0 → (i : ℕ) → i ≤ length us → v + size_at G h * i ≤ start
        → from_on start (rest_of G ws area h v us 0) ≡ from_on start (rest_of G ws area h v us i)
    passed S start a zero l m = refl
    passed S start a (suc i) l m =
        passed S start a i (omega arith) (omega arith)
        ∙ ap (from_on start) (rest_step i (omega arith))
        ∙ from_append start (one i) (rest_of G ws area h v us (i + 1))
        ∙ ap (λ (x : List Mapping). x ++ from_on start (rest_of G ws area h v us (i + 1))) (one_before S start h (v + size_at G h * i) (get_or us i 0) (add-mul-mod_self_left v (size_at G h) i ∙ a) (omega arith))
        ∙ ap (λ (x : ℕ). from_on start (rest_of G ws area h v us x)) (omega arith)

    pub first_from : Sane G → (start i : ℕ) → v % size_at G h ≡ 0 → length us ≡ entries G → FirstFrom G start h v i
        → from_on start (rest_of G ws area h v us 0) ≡ from_on start (rest_of G ws area h v us i)
    first_from S start i a e F =
        ⊎_elim (passed S start a i (omega (arith, F.inside))) (λ z. ap (λ (x : ℕ). from_on start (rest_of G ws area h v us x)) (sym z)) F.passed

-- ---- regions

module _ {G : Granule} (S : Sane G) where
  -- from the entry that holds the start on, in a table that does
  pub first_inside : {start h v : ℕ} → RegionFit G start (suc h) v → v < start → {i : ℕ} → i ≡ at_level G h (index_at G start h) → FirstFrom G start h v i
  first_inside {start} {h} {v} R l {i} e = record { inside = rw is (index_below G start h); passed = inl (omega (arith, at)); not_before = omega (arith, at, mod-lt start (size_pos G h)) }
    where
      is : i ≡ index_at G start h
      is = e ∙ level_some G R.level (index_at G start h)

      here : base_at G start (suc h) ≡ v
      here = base_inside G v start (suc h) R.aligned (omega arith) R.not_before

      at : start ≡ v + size_at G h * i + start % size_at G h
      at = omega (arith, base_rest G start (suc h), here, rest_index G start h, mul_comm (index_at G start h) (size_at G h), ap (λ (x : ℕ). size_at G h * x) is)

  -- all of them, in a table that begins at the start or after it
  pub first_none : (start h v : ℕ) → start ≤ v → FirstFrom G start h v 0
  first_none start h v l = record { inside = entries_pos G; passed = inr refl; not_before = omega (arith, size_pos G h) }

  -- no later one ends before the start
  pub still : {start h v from : ℕ} → FirstFrom G start h v from → (i : ℕ) → from ≤ i → start < v + size_at G h * i + size_at G h
  still {h = h} F i l = omega (arith, F.not_before, mul-le-mul_left (size_at G h) l)

  -- the region of an entry
  pub entry_region : {start h v : ℕ} → RegionFit G start (suc h) v → (i : ℕ) → i < entries G → start < v + size_at G h * i + size_at G h → RegionFit G start h (v + size_at G h * i)
  entry_region {start} {h} {v} R i l m = record {
    level = omega (arith, R.level);
    aligned = add-mul-mod_self_left v (size_at G h) i ∙ aligned_down G {j = h} {h = suc h} (omega arith) v R.aligned;
    fits = omega (arith, R.fits, size_suc' G h, table_ends (size_at G h) l);
    not_before = m;
  }

  -- the power of two of the sizes of a level, which code has found
  pub power_at : {h bits : ℕ} → h < G.most → bits ≡ at_level G h (G.page + G.index * h) → (bits ≤ 48) × (bits ≡ G.page + G.index * h)
  power_at {h} {bits} l e =
      let z : bits ≡ G.page + G.index * h = e ∙ level_some G l (G.page + G.index * h) in
      let m : h ≤ G.most = omega arith in
      (omega (arith, z, S.space_fits, mul-le-mul_left G.index m), z)

  -- pages, whose size and its power code has found
  last_level : 0 < G.most
  last_level = omega (arith, S.large_below, S.few_most)

  pub page_bits : {bits : ℕ} → bits ≡ at_level G 0 (G.page + G.index * 0) → (bits ≤ 48) × (bits ≡ G.page + G.index * 0)
  page_bits e = power_at last_level e

  pub page_size_lem : {size : ℕ} → size ≡ at_level G 0 (size_at G 0) → size ≡ size_at G 0
  page_size_lem e = e ∙ level_some G last_level (size_at G 0)

  module _ {us : List ℕ} {v size : ℕ} (F : PagesFit G us v) (e : size ≡ size_at G 0) {i : ℕ} (l : i < length us) where
    pub page_ends : v + size * i + size ≤ physical
    page_ends = subst (λ (x : ℕ). v + x * i + x ≤ physical) (sym e) (omega (arith, F.fits, size_suc' G 0, ap (λ (x : ℕ). size_at G 0 * x) F.whole, table_ends (size_at G 0) {t = i} {c = length us} l))

    pub page_one : (ws : List ℕ) (area : Area) → SoundPages G ws area us → OneOf G 0 (v + size * i) (get_or us i 0) (one G ws area 0 v us i)
    page_one ws area s =
        subst (λ (x : ℕ). OneOf G 0 (v + x * i) (get_or us i 0) (one G ws area 0 v us i)) (sym e) (last_of_lem G ws area S (v + size_at G 0 * i) (get_or us i 0) (s i (omega (arith, F.whole))))

  -- what a table asks of each of its entries, whose size code has found
  module _ {ws : List ℕ} {area : Area} {start h t v size : ℕ} (T : TableFit G ws area start t h v) (e : size ≡ at_level G h (size_at G h)) where
    size_is : size ≡ size_at G h
    size_is = e ∙ level_some G T.region.level (size_at G h)

    module _ {from i : ℕ} (first : FirstFrom G start h v from) (later : from ≤ i) (low : i < entries G) where
      inner : RegionFit G start h (v + size_at G h * i)
      inner = entry_region T.region i low (still first i later)

      pub entry_ends : v + size * i + size ≤ physical
      entry_ends = subst (λ (x : ℕ). v + x * i + x ≤ physical) (sym size_is) inner.fits

      pub entry_fit : {us : List ℕ} → us ≡ table_words G ws t → 1 ≤ h → EntryFit G ws area start (get_or us i 0) h (v + size * i)
      entry_fit {us} q a =
          subst (λ (x : ℕ). EntryFit G ws area start (get_or us i 0) h (v + x * i)) (sym size_is)
          (record {
            above = a;
            low = T.region.level;
            region = inner;
            sound = subst (λ (w : ℕ). SoundEntry (SoundBelow G ws area h) (entry_at G area h w)) (sym (word_is G ws t i low) ∙ ap (λ (x : List ℕ). get_or x i 0) (sym q)) (sound_entry G ws area h t T.sound i low);
          })

      pub entry_told : (us P E P' E' : List ℕ) (n : ℕ) (r : Result ℕ ℕ)
          → fed r P' E' ≡ feed G (from_on start (of_entry G h (v + size * i) (below G ws area h) (entry_at G area h (get_or us i 0))).mappings) P E n
          → fed r P' E' ≡ feed G (from_on start (one G ws area h v us i)) P E n
      entry_told us P E P' E' n r d =
          d ∙ ap (λ (x : ℕ). feed G (from_on start (of_entry G h (v + x * i) (below G ws area h) (entry_at G area h (get_or us i 0))).mappings) P E n) size_is

-- ---- a loop over the entries

-- what is left to list, from entry i on, comes to the same as what was at first, from another on
abbrev pub Same : Granule → List ℕ → Area → ℕ → ℕ → ℕ → List ℕ → ℕ → List ℕ → List ℕ → ℕ → List ℕ → List ℕ → ℕ → ℕ → Type 0
Same G ws area start h v us from P₀ E₀ n₀ P E n i =
    feed G (from_on start (rest_of G ws area h v us i)) P E n ≡ feed G (from_on start (rest_of G ws area h v us from)) P₀ E₀ n₀

module _ (G : Granule) (ws : List ℕ) (area : Area) (start h v : ℕ) (us : List ℕ) (from : ℕ) (P₀ E₀ : List ℕ) (n₀ : ℕ) (P E : List ℕ) (n i : ℕ)
    (k : Same G ws area start h v us from P₀ E₀ n₀ P E n i) where
  pub loop_end : length us ≤ i → fed (Ok n) P E ≡ feed G (from_on start (rest_of G ws area h v us from)) P₀ E₀ n₀
  unfolding from_on
  loop_end l = fed_none G P E n ∙ ap (λ (x : List Mapping). feed G (from_on start x) P E n) (sym (rest_none G ws area h v us i l)) ∙ k

  module _ (l : i < length us) (P' E' : List ℕ) where
    abbrev here : List Mapping
    here = from_on start (one G ws area h v us i)

    abbrev later : List Mapping
    later = from_on start (rest_of G ws area h v us (i + 1))

    parts : feed G (from_on start (rest_of G ws area h v us i)) P E n ≡ feed G (here ++ later) P E n
    parts =
        ap (λ (x : List Mapping). feed G (from_on start x) P E n) (rest_step G ws area h v us i l)
        ∙ ap (λ (x : List Mapping). feed G x P E n) (from_append start (one G ws area h v us i) (rest_of G ws area h v us (i + 1)))

    pub loop_stop : (base : ℕ) → fed (Err base) P' E' ≡ feed G here P E n → fed (Err base) P' E' ≡ feed G (from_on start (rest_of G ws area h v us from)) P₀ E₀ n₀
    loop_stop base e = fed_stop G here later P E P' E' n base e ∙ sym parts ∙ k

    pub loop_next : (m : ℕ) → fed (Ok m) P' E' ≡ feed G here P E n → Same G ws area start h v us from P₀ E₀ n₀ P' E' m (i + 1)
    loop_next m e = sym (fed_on G here later P E P' E' n m e) ∙ sym parts ∙ k

-- ---- a table

module _ {G : Granule} (S : Sane G) (ws : List ℕ) (area : Area) (start h t v : ℕ) (T : TableFit G ws area start t h v) {us : List ℕ} (q : us ≡ table_words G ws t) where
  pub table_long : {first second : ℕ} → RunsFit G area first second → length ws ≡ first + second → length us ≡ entries G
  table_long R e = ap length q ∙ length_part ws (slot G t 0) (entries G) (omega (arith, e, R.long, table_ends (entries G) T.inside))

  -- from the entry on at which the loop begins
  pub table_told : (from : ℕ) → length us ≡ entries G → FirstFrom G start h v from → from_on start (rest_of G ws area h v us from) ≡ from_on start (of_table G ws area h t v).mappings
  table_told from e F =
      sym (first_from G ws area h v us S start from (aligned_down G {j = h} {h = suc h} (omega arith) v T.region.aligned) e F)
      ∙ ap (λ (x : List ℕ). from_on start (rest_of G ws area h v x 0)) q
      ∙ ap (from_on start) (sym (table_is G ws area h t v))

  -- one of the last level
  module _ (z : h ≡ 0) where
    pub pages_sound : SoundPages G ws area us
    pages_sound i l =
        subst (λ (w : ℕ). SoundEntry (SoundBelow G ws area 0) (entry_at G area 0 w)) (sym (word_is G ws t i l) ∙ ap (λ (x : List ℕ). get_or x i 0) (sym q))
        (sound_entry G ws area 0 t (subst (λ (x : ℕ). SoundTable G ws area x t) z T.sound) i l)

    pub pages_fit : length us ≡ entries G → PagesFit G us v
    pages_fit e = record { whole = e; fits = subst (λ (x : ℕ). v + size_at G (suc x) ≤ physical) z T.region.fits }

    pub pages_told : (from : ℕ) (P E P' E' : List ℕ) (n : ℕ) (r : Result ℕ ℕ) → length us ≡ entries G → FirstFrom G start h v from
        → fed r P' E' ≡ feed G (from_on start (rest_of G ws area 0 v us from)) P E n → fed r P' E' ≡ feed G (from_on start (of_table G ws area h t v).mappings) P E n
    pages_told from P E P' E' n r e F d =
        d ∙ ap (λ (x : ℕ). feed G (from_on start (rest_of G ws area x v us from)) P E n) (sym z) ∙ ap (λ (x : List Mapping). feed G x P E n) (table_told from e F)

-- ---- an entry above the last level

module _ {G : Granule} (S : Sane G) (ws : List ℕ) (area : Area) (start w h v : ℕ) (F : EntryFit G ws area start w h v) where
  abbrev given : List Mapping
  given = (of_entry G h v (below G ws area h) (entry_at G area h w)).mappings

  pub entry_none : w ≡ 0 → (P E : List ℕ) (n : ℕ) → fed (Ok n) P E ≡ feed G (from_on start given) P E n
  unfolding from_on
  entry_none z P E n = fed_none G P E n ∙ ap (λ (e : Entry). feed G (from_on start (of_entry G h v (below G ws area h) e).mappings) P E n) (sym (ap (entry_at G area h) z ∙ entry_zero G area h))

  module _ {c : ℕ} (e : c ≡ child_at G area w) where
    pub entry_one : c ≡ 0 → OneOf G h v w given
    entry_one z = childless G ws area S h v w e z F.sound

    module _ (n : c ≡ 0 → ⊥) where
      some : 1 ≤ c
      some = omega arith

      names : entry_at G area h w ≡ Table c
      names = entry_table G area h w F.above (sym e) some

      pub child_fit : TableFit G ws area start c (h - 1) v
      child_fit = record {
        inside = (child_only G area w (sym e) some).0;
        region = subst (λ (x : ℕ). RegionFit G start x v) (omega (arith, F.above)) F.region;
        sound = child_sound G ws area h c w F.above names F.sound;
      }

      pub child_told : (P E P' E' : List ℕ) (k : ℕ) (r : Result ℕ ℕ) → fed r P' E' ≡ feed G (from_on start (of_table G ws area (h - 1) c v).mappings) P E k → fed r P' E' ≡ feed G (from_on start given) P E k
      child_told P E P' E' k r d = d ∙ ap (λ (x : List Mapping). feed G (from_on start x) P E k) (sym (child_mappings G ws area h v c w F.above names))
