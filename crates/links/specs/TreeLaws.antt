-- Laws of trees, and of what words name in them.
use Prim.Native.Nat.{ℕ, ◌+◌, ◌%◌, ◌<◌, ◌≤◌}
use Rattle.std.specs.Prelude.{◌≡◌, if◌then◌else◌, nat_le, nat_lt, Bool, true, false, cond, ltb, eqb, Option, Some, None}
use Rattle.std.proofs.Math.Path.{refl, sym}
use Rattle.std.proofs.Common.{◌∙◌, ap, subst, mod-eq_of_lt}
use native.Mathlib.Omega.{arith}
use borrow.Author.Tests.{ltb-true, ltb-false, eqb-true, eqb-false, lt-ltb, le-ltb, eq-eqb, ne_eqb}
use Rattle.path.specs.Geometry.{Granule, granule_of, physical}
use Rattle.path.specs.Areas.{Area, area_at, area_of, total, table_at}
use Rattle.path.specs.Numbers.{most_tables}
use Rattle.path.specs.declared.Setup.{Setup}
use Rattle.entry.specs.Words.{table_word, named_in, child_at, entry_at}
use Rattle.entry.specs.declared.Entry.{Entry}
use Rattle.links.specs.declared.Tree.{Tree}
use Rattle.links.specs.Trees.{tree_of, area_in, table_named, some_child}

-- no pool has more tables than 16 bits count
pub few_area : (s : Setup) → s.tables < 65536 → s.tables2 < 65536 → area_in (tree_of s) ≡ area_of s
few_area s l m = ap (λ (n : ℕ). area_at s.base n s.base2 (s.tables2 % 65536)) (mod-eq_of_lt l) ∙ ap (area_at s.base s.tables s.base2) (mod-eq_of_lt m)

pub tables_made : (s : Setup) → s.tables < 65536 → s.tables2 < 65536
    → ◌≡◌ {A = Tree} (tree_of s) (record { granule = s.granule; base = s.base; tables = s.tables; base2 = s.base2; tables2 = s.tables2 })
tables_made s l m = λ i. record { granule = s.granule; base = s.base; tables = mod-eq_of_lt l i; base2 = s.base2; tables2 = mod-eq_of_lt m i }

pub tree_area : (s : Setup) → total (area_of s) ≤ most_tables → area_in (tree_of s) ≡ area_of s
tree_area s l = few_area s (omega arith) (omega arith)

pub named_gone : (G : Granule) (b n w : ℕ) → named_in G b n w ≡ n → table_named G b n w ≡ None
unfolding table_named
named_gone G b n w e = ap (λ (t : Bool). cond t (Some (named_in G b n w)) None) (le-ltb (named_in G b n w) n (omega arith))

pub named_there : (G : Granule) (b n w : ℕ) {i : ℕ} → named_in G b n w ≡ i → i < n → table_named G b n w ≡ Some i
unfolding table_named
named_there G b n w e l = ap (λ (t : Bool). cond t (Some (named_in G b n w)) None) (lt-ltb (named_in G b n w) n (omega arith)) ∙ ap Some e

module _ (G : Granule) (b n w : ℕ) where
  pub some_named : {c : ℕ} → table_named G b n w ≡ Some c → (c ≡ named_in G b n w) × (c < n)
  unfolding table_named
  some_named {c} e = go (ltb (named_in G b n w) n) refl e
    where
      go : (t : Bool) → ltb (named_in G b n w) n ≡ t → cond t (Some (named_in G b n w)) None ≡ Some c → (c ≡ named_in G b n w) × (c < n)
      go true l e = let same : named_in G b n w ≡ c = cc in (sym same, subst (λ (i : ℕ). i < n) same (ltb-true (named_in G b n w) n l))
      go false l e = cc

  pub none_named : table_named G b n w ≡ None → n ≤ named_in G b n w
  unfolding table_named
  none_named e = go (ltb (named_in G b n w) n) refl e
    where
      go : (t : Bool) → ltb (named_in G b n w) n ≡ t → cond t (Some (named_in G b n w)) None ≡ None → n ≤ named_in G b n w
      go true l e = cc
      go false l e = ltb-false (named_in G b n w) n l

module _ (G : Granule) (area : Area) (w : ℕ) where
  pub child_there : {c : ℕ} → child_at G area w ≡ c → 1 ≤ c → some_child G area w ≡ Some c
  unfolding some_child
  child_there e l = ap (λ (t : Bool). cond t None (Some (child_at G area w))) (ne_eqb (child_at G area w) 0 (λ z. omega arith)) ∙ ap Some e

  pub child_gone : child_at G area w ≡ 0 → some_child G area w ≡ None
  unfolding some_child
  child_gone e = ap (λ (t : Bool). cond t None (Some (child_at G area w))) (eq-eqb (child_at G area w) 0 e)

  pub some_is : {c : ℕ} → some_child G area w ≡ Some c → (child_at G area w ≡ c) × (1 ≤ c)
  unfolding some_child
  some_is {c} e = go (eqb (child_at G area w) 0) refl e
    where
      go : (t : Bool) → eqb (child_at G area w) 0 ≡ t → cond t None (Some (child_at G area w)) ≡ Some c → (child_at G area w ≡ c) × (1 ≤ c)
      go true z e = cc
      go false z e = let same : child_at G area w ≡ c = cc in (same, let n = eqb-false (child_at G area w) 0 z in omega arith)

  pub none_is : some_child G area w ≡ None → child_at G area w ≡ 0
  unfolding some_child
  none_is e = go (eqb (child_at G area w) 0) refl e
    where
      go : (t : Bool) → eqb (child_at G area w) 0 ≡ t → cond t None (Some (child_at G area w)) ≡ None → child_at G area w ≡ 0
      go true z e = eqb-true (child_at G area w) 0 z
      go false z e = cc

-- What is read by the tree of setup numbers is read by their area.
module _ {t : Tree} (s : Setup) (made : t ≡ tree_of s) (few : s.tables < 65536) (few₂ : s.tables2 < 65536) where
  by_setup : {X : Type 0} (f : Granule → Area → X) → f (granule_of t.granule) (area_in t) ≡ f (granule_of s.granule) (area_of s)
  by_setup f = ap (λ (u : Tree). f (granule_of u.granule) (area_in u)) made ∙ ap (f (granule_of s.granule)) (few_area s few few₂)

  pub read_in : {e : Entry} (h w : ℕ) → e ≡ entry_at (granule_of t.granule) (area_in t) h w → e ≡ entry_at (granule_of s.granule) (area_of s) h w
  read_in h w r = r ∙ by_setup (λ G area. entry_at G area h w)

  module _ {o : Option ℕ} (w : ℕ) (told : o ≡ some_child (granule_of t.granule) (area_in t) w) where
    pub child_some : {c : ℕ} → o ≡ Some c → (c ≡ child_at (granule_of s.granule) (area_of s) w) × (c ≡ 0 → ⊥)
    child_some e =
        let (same, least) = some_is (granule_of s.granule) (area_of s) w (sym (told ∙ by_setup (λ G area. some_child G area w)) ∙ e) in
        (sym same, λ z. omega arith)

    pub child_none : o ≡ None → child_at (granule_of s.granule) (area_of s) w ≡ 0
    child_none e = none_is (granule_of s.granule) (area_of s) w (sym (told ∙ by_setup (λ G area. some_child G area w)) ∙ e)

-- the word of a table goes by the bases and by how many tables the first region has
pub word_in : {t : Tree} (s : Setup) → t ≡ tree_of s → s.tables < 65536 → (c : ℕ) {w : ℕ}
    → w ≡ (if nat_le (if nat_lt c t.tables then t.base else t.base2) physical then table_word (granule_of t.granule) (area_in t) c else 0)
    → w ≡ (if nat_le (if nat_lt c s.tables then s.base else s.base2) physical then table_word (granule_of s.granule) (area_of s) c else 0)
unfolding table_word table_at
word_in s made few c e =
    e
    ∙ ap (λ (u : Tree). if nat_le (if nat_lt c u.tables then u.base else u.base2) physical then table_word (granule_of u.granule) (area_in u) c else 0) made
    ∙ ap (λ (n : ℕ). if nat_le (if nat_lt c n then s.base else s.base2) physical then table_word (granule_of s.granule) (area_at s.base n s.base2 s.tables2) c else 0) (mod-eq_of_lt few)
