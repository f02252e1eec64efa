-- Laws of the hardware's walk, in the order in which the code tests. They are over any granule; what needs the numbers of the two comes first.
use Prim.Native.Nat.{ℕ, zero, suc, ◌+◌, ◌-◌, ◌*◌, ◌/◌, ◌%◌, ◌^◌, ◌≤◌, ◌<◌}
use Rattle.std.specs.Prelude.{◌≡◌, Bool, true, cond, ◌&&◌, List, ◌++◌, leb, eqb}
use Rattle.std.proofs.Math.Path.{refl, ap}
use Rattle.std.proofs.Common.{sym, ◌∙◌, mod-lt, le-div_iff_mul-le, div-lt_iff_lt-mul, pow_pos, pow_mono, pow-add}
use Rattle.std.proofs.Math.Bool.{false, and-eq-true_iff}
use Rattle.std.proofs.Math.Option.{Option, none}
use Rattle.std.proofs.Math.Decide.{dec_le}
use native.Mathlib.Omega.{arith}
use Rattle.std.proofs.Math.Dec.{ltb}
use Rattle.std.proofs.Math.ListN.{length, get_or}
use Rattle.std.proofs.lemmas.Nat.{mod-pow-add}
use borrow.Author.Tests.{eq-eqb, ne_eqb, le-leb, lt-leb, lt-ltb, le-ltb, leb-true, leb-false, ltb-true}
use Rattle.laws.specs.ListLaws.{get_d_first, get_d_later}
use Rattle.path.specs.Geometry.{Granule, granule_of, entries, physical, good_levels}
use Rattle.path.specs.Laws.{granule_either, granule_sane, entries_most}
use Rattle.hardware.specs.Machine.{Translation, valid_bit, table_bit, access_flag, address_from, shift, index_bits, output_of, largest_block, input_end}
use Rattle.hardware.specs.Machine.{leaf, valid, step_by, on_step, walk, stage2}
use Rattle.hardware.specs.Machine as machine
use Rattle.armwalk.specs.Runs.{within, memory_of, by_word, stage2_of}

-- ---- the two granules

pub shift_low : (number h : ℕ) → h ≤ 3 → shift (granule_of number) h ≤ 47
shift_low number h l = granule_either (λ (G : Granule). shift G h ≤ 47) (omega arith) (omega arith) number

pub fewest_three : (number : ℕ) → (granule_of number).fewest ≡ 3
fewest_three = granule_either (λ (G : Granule). G.fewest ≡ 3) refl refl

-- ---- sizes

pub size_is : {G K : Granule} (h j : ℕ) → G ≡ K → h ≡ j → 2 ^ shift K j ≡ 2 ^ shift G h
size_is h j g e = rw (g, e)

pub index_few : (number a h : ℕ) → index_bits (granule_of number) a h < 2 ^ 22
index_few number a h =
    let G = granule_of number in
    omega (arith, entries_most G (granule_sane number), mod-lt (a / 2 ^ shift G h) (pow_pos G.index))

-- the size of a height h, and what is known of it
module _ (G : Granule) (h size : ℕ) (e : size ≡ 2 ^ shift G h) where
  pub size_some : 0 < size
  size_some = omega (arith, e, pow_pos (shift G h))

  -- K is what code has for the entries of a table
  module _ {H : Granule} {K : ℕ} (g : G ≡ H) (k : K ≡ entries H) (a : ℕ) where
    pub index_is : a / size % K ≡ index_bits G a h
    index_is = rw (k, e, g)

    pub past_is : leb K (a / size) ≡ leb (entries G) (a / 2 ^ shift G h)
    past_is = rw (k, e, g)

  module _ (low : shift G h ≤ 47) where
    -- bits 47 down to the height's own
    address_is : (w : ℕ) → w % 2 ^ 48 ≡ address_from (shift G h) w + w % size
    address_is w =
        let s = shift G h in
        let q : 48 - s + s ≡ 48 = omega arith in
        ap (λ (x : ℕ). w % 2 ^ x) (sym q) ∙ mod-pow-add w (48 - s) s ∙ ap (λ (x : ℕ). address_from s w + w % x) (sym e)

    pub rest_le : (w : ℕ) → w % size ≤ w % 2 ^ 48
    rest_le w = omega (arith, address_is w)

    pub rest_few : (a : ℕ) → a % size < 2 ^ 47
    rest_few a = omega (arith, e, pow_mono {i = shift G h} {j = 47} low, mod-lt a size_some)

-- bits 47 down to those of a page
page_is : (G : Granule) (size : ℕ) → size ≡ 2 ^ shift G 0 → shift G 0 ≤ 47 → (w : ℕ) → w % 2 ^ 48 ≡ address_from G.page w + w % size
page_is G size e low w =
    let z : shift G 0 ≡ G.page = omega arith in
    address_is G 0 size e low w ∙ ap (λ (s : ℕ). address_from s w + w % size) z

-- ---- memory

module _ (base words at : ℕ) where
  pub within_at : within base words at ≡ true → (base ≤ at) × ((at - base) / 8 < words)
  unfolding within
  within_at e =
      let (l, m) = (and-eq-true_iff (leb base at) (ltb ((at - base) / 8) words)).0 e in
      (leb-true base at l, ltb-true ((at - base) / 8) words m)

  pub within_yes : base ≤ at → ltb ((at - base) / 8) words ≡ within base words at
  unfolding within
  within_yes l = rw (le-leb base at l)

  pub within_not : (base ≤ at → words ≤ (at - base) / 8) → within base words at ≡ false
  unfolding within
  within_not out = go (dec_le base at)
    where
      go : Dec (base ≤ at) → (leb base at && ltb ((at - base) / 8) words) ≡ false
      go (yes l) = rw (le-leb base at l, le-ltb ((at - base) / 8) words (out l))
      go (no d) = rw (lt-leb base at (omega arith))

module _ (base : ℕ) (first : List ℕ) (base₂ : ℕ) (second : List ℕ) (at : ℕ) where
  pub memory_first : within base (length first) at ≡ true → get_or (first ++ second) ((at - base) / 8) 0 ≡ memory_of base first base₂ second at
  unfolding memory_of
  memory_first e = rw e (get_d_first first second ((at - base) / 8) (within_at base (length first) at e).1)

  -- not in the first run
  module _ (out : within base (length first) at ≡ false) where
    pub memory_none : at < base₂ → 0 ≡ memory_of base first base₂ second at
    unfolding memory_of
    memory_none l = rw (out, lt-leb base₂ at l)

    pub memory_second : base₂ ≤ at → get_or (first ++ second) (length first + (at - base₂) / 8) 0 ≡ memory_of base first base₂ second at
    unfolding memory_of
    memory_second l =
        let e : length first + (at - base₂) / 8 - length first ≡ (at - base₂) / 8 = omega arith in
        rw (out, le-leb base₂ at l) (get_d_later first second (length first + (at - base₂) / 8) (omega arith) ∙ ap (λ (i : ℕ). get_or second i 0) e)

-- ---- words

module _ (G : Granule) (a h w : ℕ) where
  pub leaf_none : (access_flag w ≡ 1 → ⊥) → machine.fault ≡ leaf G a h w
  leaf_none d = rw (ne_eqb (access_flag w) 1 d)

  pub leaf_some : (size : ℕ) → size ≡ 2 ^ shift G h → shift G h ≤ 47 → access_flag w ≡ 1
      → machine.hit (by_word (w % 2 ^ 48 - w % size + a % size) w) ≡ leaf G a h w
  leaf_some size e low f =
      let q : w % 2 ^ 48 - w % size + a % size ≡ output_of G a h w = omega (arith, address_is G h size e low w, ap (λ (x : ℕ). a % x) e) in
      let u : leaf G a h w ≡ machine.hit (by_word (output_of G a h w) w) = rw (eq-eqb (access_flag w) 1 f) in
      ap {B = machine.Step} (λ (x : ℕ). machine.hit (by_word x w)) q ∙ sym u

  pub step_invalid : (w % 2 ≡ 1 → ⊥) → machine.fault ≡ step_by G a h w
  step_invalid d = rw (ne_eqb (valid_bit w) 1 (λ v. d (omega arith)))

  -- a valid word
  module _ (v : w % 2 ≡ 1) where
    valid_is : valid G a h w ≡ step_by G a h w
    valid_is = rw (eq-eqb (valid_bit w) 1 (omega arith))

    pub step_nothing : h ≡ 0 → (table_bit w ≡ 1 → ⊥) → machine.fault ≡ step_by G a h w
    step_nothing e d =
        let u : valid G a 0 w ≡ machine.fault = rw (ne_eqb (table_bit w) 1 d) in
        sym u ∙ ap (λ (j : ℕ). valid G a j w) (sym e) ∙ valid_is

    pub step_page : h ≡ 0 → table_bit w ≡ 1 → leaf G a h w ≡ step_by G a h w
    step_page e t =
        let u : valid G a 0 w ≡ leaf G a 0 w = rw (eq-eqb (table_bit w) 1 t) in
        ap (λ (j : ℕ). leaf G a j w) e ∙ sym u ∙ ap (λ (j : ℕ). valid G a j w) (sym e) ∙ valid_is

    -- above the last level
    above : (j : ℕ) → h ≡ suc j → valid G a (suc j) w ≡ step_by G a h w
    above j e = ap (λ (j : ℕ). valid G a j w) (sym e) ∙ valid_is

    some_level : (h ≡ 0 → ⊥) → h ≡ suc (h - 1)
    some_level d = omega arith

    pub step_next : (h ≡ 0 → ⊥) → table_bit w ≡ 1 → (size : ℕ) → size ≡ 2 ^ shift G 0 → shift G 0 ≤ 47
        → machine.next (w % 2 ^ 48 - w % size) ≡ step_by G a h w
    step_next d t size e low =
        let q : w % 2 ^ 48 - w % size ≡ address_from G.page w = omega (arith, page_is G size e low w) in
        let u : valid G a (suc (h - 1)) w ≡ machine.next (address_from G.page w) = rw (eq-eqb (table_bit w) 1 t) in
        ap {B = machine.Step} (λ (x : ℕ). machine.next x) q ∙ sym u ∙ above (h - 1) (some_level d)

    pub step_high : (h ≡ 0 → ⊥) → (table_bit w ≡ 1 → ⊥) → largest_block G < h → machine.fault ≡ step_by G a h w
    step_high d t l =
        let e = some_level d in
        let u : valid G a (suc (h - 1)) w ≡ machine.fault = rw (ne_eqb (table_bit w) 1 t, lt-leb (suc (h - 1)) (largest_block G) (omega arith)) in
        sym u ∙ above (h - 1) e

    pub step_block : (h ≡ 0 → ⊥) → (table_bit w ≡ 1 → ⊥) → h ≤ largest_block G → leaf G a h w ≡ step_by G a h w
    step_block d t l =
        let e = some_level d in
        let u : valid G a (suc (h - 1)) w ≡ leaf G a (suc (h - 1)) w = rw (ne_eqb (table_bit w) 1 t, le-leb (suc (h - 1)) (largest_block G) (omega arith)) in
        ap (λ (j : ℕ). leaf G a j w) e ∙ sym u ∙ above (h - 1) e

-- a table's address is below 2^48: only a table's word names one
not_leaf : (t : ℕ) (x : Translation) (y : Bool) → machine.next t ≡ cond y (machine.hit x) machine.fault → ⊥
not_leaf t x true e = let z : ◌≡◌ {A = ℕ} 0 1 = cc in omega arith
not_leaf t x false e = let z : ◌≡◌ {A = ℕ} 0 1 = cc in omega arith

not_fault : (t : ℕ) → machine.next t ≡ machine.fault → ⊥
not_fault t e = let z : ◌≡◌ {A = ℕ} 0 1 = cc in omega arith

module _ (G : Granule) (low : shift G 0 ≤ 47) (a w t : ℕ) where
  by_valid : (h : ℕ) → machine.next t ≡ valid G a h w → t ≤ 2 ^ 48
  by_valid zero e = go (eqb (table_bit w) 1) e
    where
      go : (y : Bool) → machine.next t ≡ cond y (leaf G a 0 w) machine.fault → t ≤ 2 ^ 48
      go true e = absurd (not_leaf t (by_word (output_of G a 0 w) w) (eqb (access_flag w) 1) e)
      go false e = absurd (not_fault t e)
  by_valid (suc h) e = go (eqb (table_bit w) 1) (leb (suc h) (largest_block G)) e
    where
      go : (y z : Bool) → machine.next t ≡ cond y (machine.next (address_from G.page w)) (cond z (leaf G a (suc h) w) machine.fault) → t ≤ 2 ^ 48
      go true z e =
          let q : t ≡ address_from G.page w = cc in
          omega (arith, q, page_is G (2 ^ shift G 0) refl low w, mod-lt w (pow_pos 48))
      go false true e = absurd (not_leaf t (by_word (output_of G a (suc h) w) w) (eqb (access_flag w) 1) e)
      go false false e = absurd (not_fault t e)

  pub next_low : (h : ℕ) → machine.next t ≡ step_by G a h w → t ≤ 2 ^ 48
  next_low h e = go (eqb (valid_bit w) 1) e
    where
      go : (y : Bool) → machine.next t ≡ cond y (valid G a h w) machine.fault → t ≤ 2 ^ 48
      go true e = by_valid h e
      go false e = absurd (not_fault t e)

-- ---- walks

module _ (G : Granule) (base : ℕ) (first : List ℕ) (base₂ : ℕ) (second : List ℕ) (a : ℕ) where
  abbrev mem : ℕ → ℕ → ℕ
  mem = λ _. memory_of base first base₂ second

  -- what is done at a table that a word of height h names
  abbrev onward : ℕ → ℕ → Option Translation
  onward zero c = none
  onward (suc h) c = walk G mem a h c

  walk_by_lem : (h table : ℕ) → walk G mem a h table ≡ on_step (step_by G a h (memory_of base first base₂ second (table + 8 * index_bits G a h))) (onward h)
  unfolding walk
  walk_by_lem zero table = refl
  walk_by_lem (suc h) table = refl

  -- the word that the code reads is the one that the walk reads
  module _ (h index table w : ℕ) (e : index ≡ index_bits G a h) (r : w ≡ memory_of base first base₂ second (table + 8 * index)) where
    pub walk_step : (s : machine.Step) → s ≡ step_by G a h w → on_step s (onward h) ≡ walk G mem a h table
    walk_step s q =
        let u : w ≡ memory_of base first base₂ second (table + 8 * index_bits G a h) = r ∙ ap (λ (x : ℕ). memory_of base first base₂ second (table + 8 * x)) e in
        ap (λ (s : machine.Step). on_step s (onward h)) (q ∙ ap (step_by G a h) u) ∙ sym (walk_by_lem h table)

    -- a table below the last level is nothing
    pub walk_last : (t : ℕ) → h ≡ 0 → machine.next t ≡ step_by G a h w → none ≡ walk G mem a h table
    walk_last t z q = ap (λ (j : ℕ). onward j t) (sym z) ∙ walk_step (machine.next t) q

    -- what the walk from the table that a word names comes to, the walk comes to
    pub walk_down : (x : Option Translation) (t : ℕ) → (h ≡ 0 → ⊥) → machine.next t ≡ step_by G a h w → x ≡ walk G mem a (h - 1) t → x ≡ walk G mem a h table
    walk_down x t d q o =
        let z : h ≡ suc (h - 1) = omega arith in
        o ∙ ap (λ (j : ℕ). onward j t) (sym z) ∙ walk_step (machine.next t) q

  -- ---- the root

  module _ (levels : ℕ) where
    pub levels_few : levels < G.fewest → none ≡ stage2_of G first second base base₂ levels a
    unfolding good_levels
    levels_few l = rw (lt-leb G.fewest levels l)

    module _ (l : G.fewest ≤ levels) where
      pub levels_many : G.most < levels → none ≡ stage2_of G first second base base₂ levels a
      unfolding good_levels
      levels_many m = rw (le-leb G.fewest levels l, lt-leb levels G.most m)

      module _ (m : levels ≤ G.most) where
        pub base_high : physical < base → none ≡ stage2_of G first second base base₂ levels a
        unfolding good_levels
        base_high b = rw (le-leb G.fewest levels l, le-leb levels G.most m, lt-leb base physical b)

        -- the root's words make up the space
        module _ (some : 1 ≤ levels) (b : base ≤ physical) where
          root_is : stage2 G levels base mem a ≡ stage2_of G first second base base₂ levels a
          unfolding good_levels
          root_is = rw (le-leb G.fewest levels l, le-leb levels G.most m, le-leb base physical b)

          abbrev size : ℕ
          size = 2 ^ shift G (levels - 1)

          end_is : input_end G levels ≡ entries G * size
          end_is =
              let z : levels ≡ levels - 1 + 1 = omega arith in
              let q : shift G levels ≡ G.index + shift G (levels - 1) = rw (ap (shift G) z) (omega arith) in
              ap (λ (x : ℕ). 2 ^ x) q ∙ pow-add 2 G.index (shift G (levels - 1))

          pub past_end : leb (entries G) (a / size) ≡ true → none ≡ stage2_of G first second base base₂ levels a
          past_end q =
              let far : input_end G levels ≤ a = omega (arith, end_is, (le-div_iff_mul-le {x = entries G} {y = a} (pow_pos (shift G (levels - 1)))).0 (leb-true _ _ q)) in
              let u : stage2 G levels base mem a ≡ none = rw (le-ltb a (input_end G levels) far) in
              sym u ∙ root_is

          pub from_root : leb (entries G) (a / size) ≡ false → (x : Option Translation) → x ≡ walk G mem a (levels - 1) base → x ≡ stage2_of G first second base base₂ levels a
          from_root q x o =
              let near : a < input_end G levels = omega (arith, end_is, (div-lt_iff_lt-mul {x = a} {y = entries G} (pow_pos (shift G (levels - 1)))).0 (leb-false _ _ q)) in
              let u : stage2 G levels base mem a ≡ walk G mem a (levels - 1) base = rw (lt-ltb a (input_end G levels) near) in
              o ∙ sym u ∙ root_is
