-- The tree's theory numbers regions by height; the ledger speaks of addresses and sizes. The bridge between the two.
use Rattle.std.specs.Prelude.{◌≡◌, ◌⊎◌, Bool, ◌&&◌, ltb, length}
use Rattle.std.proofs.Math.Path.{refl, ap, sym}
use Rattle.std.proofs.Common.{◌∙◌, subst, div-mul-le_self, mul-le-mul_right, add-mul, mul_comm, mul_assoc, lt_of_mul-lt-mul_right, arith}
use Rattle.std.proofs.Math.Logic.{inl, inr, ⊎_elim, ite, if_neg}
use Rattle.std.proofs.Math.Bool.{true, false, cond}
use Rattle.std.proofs.lemmas.Bool.{false≢true}
use mathlib.Core.List.Memᴰ
use mathlib.Core.List.Memᴰ.{head as here}
use mathlib.Core.List.Memᴰ.{tail as there}
use mathlib.Core.List.{List, [], ◌∷◌, ◌++◌, map, Memᴰ}
use Rattle.std.proofs.Math.Option
use Rattle.std.proofs.Math.Option.{some}
use Prim.Native.Nat.{ℕ, zero, suc, ◌+◌, ◌-◌, ◌*◌, ◌/◌, ◌%◌, ◌^◌, ◌≤◌, ◌<◌, max}
use Rattle.std.proofs.Math.Nat.{div-eq_of_lt-le, lt-div-mul-add, mul-div_cancel, div-add-mod'}
use Rattle.std.proofs.Math.Decide.{ℕ_discrete, dec_lt, dec_le}
use Rattle.std.proofs.Math.Dec.{eqb}
use Rattle.std.proofs.lemmas.List.{length-map}
use borrow.Author.Tests.{ltb-true, leb-true, eqb-true, lt-ltb, le-leb, eq-eqb}
use Rattle.path.specs.Geometry.{Granule, page_size, entries, size_at, Sane}
use Rattle.path.specs.Paths.{base_at}
use Rattle.path.specs.Laws.{page_pos, entries_pos, size_pos, size_le, size_rises, size_injective, size_add}
use Rattle.model.specs.Answers as answers
use Rattle.model.proofs.LedgerLaws.{and-true, true_and, or-true, true_or}
use Rattle.model.specs.Ledger.{overlaps, any_overlap, holds_address, cover_of, drop_at, Region, region, regions_of, has_region, new_regions, regions_needed}
use Rattle.tree.specs.Region.{anc, Same, same?, page, anc_page, anc_address, page_address}
use Rattle.tree.specs.Inv.{Mapping, without, drop_if}
use Rattle.tree.specs.Ledger.{Covers, Meets, Needs, needs?, lookup, lack}
use Rattle.tree.specs.Needed.{Reg, reg, spine, needed, add_all, add_if, member?, add_all_has, add_all_from, needed_has, needed_from, spine_from}
use Rattle.laws.specs.Lists.{Distinct}

-- a test that says the same as a decision chooses the same
pub cond_ite : {A P : Type 0} (x y : A) (b : Bool) (d : Dec P) → (b ≡ true → P) → (P → b ≡ true) → cond b x y ≡ ite d x y
cond_ite x y true (yes p) f g = refl
cond_ite x y true (no n) f g = absurd (n (f refl))
cond_ite x y false (yes p) f g = absurd (false≢true (g p))
cond_ite x y false (no n) f g = refl

-- a frame's payload is its base and its attributes in one number
abbrev pub base_of : ℕ → ℕ
base_of x = x - x % 16

abbrev pub attrs_of : ℕ → ℕ
attrs_of x = x % 16

module _ (G : Granule) (Z : Sane G) where
  abbrev pub K : ℕ
  K = entries G

  -- the page of an address
  abbrev pub pg : ℕ → ℕ
  pg a = a / page_size G

  -- a mapping of the theory, as the ledger has it
  abbrev pub shown : Mapping → answers.Mapping
  shown m = answers.mapping (m.r * size_at G m.h) (base_of m.x) (size_at G m.h) (attrs_of m.x)

  -- the region of height h around an address
  pub anc_size : (a h : ℕ) → anc K h (pg a) ≡ a / size_at G h
  unfolding size_at
  anc_size a h = anc_address G.index G.page a h

  -- the first address of a region
  pub first_address : (h r : ℕ) → page K h r * page_size G ≡ r * size_at G h
  unfolding size_at
  first_address h r = page_address G.index G.page h r

  pub page_of : (h r : ℕ) → pg (r * size_at G h) ≡ page K h r
  page_of h r = ap pg (sym (first_address h r)) ∙ mul-div_cancel (page K h r) (page_pos G)

  -- an address lies in a region exactly where it divides so
  pub within : (h r a : ℕ) → r * size_at G h ≤ a → a < r * size_at G h + size_at G h → a / size_at G h ≡ r
  within h r a p q = div-eq_of_lt-le (size_at G h) p (omega (arith, add-mul r 1 (size_at G h)))

  pub within_from : (h r a : ℕ) → a / size_at G h ≡ r → (r * size_at G h ≤ a) × (a < r * size_at G h + size_at G h)
  within_from h r a e = (rw (← e) (div-mul-le_self a (size_at G h)), rw (← e) (lt-div-mul-add (size_pos G h)))

  -- holding an address
  pub holds_covers : (a : ℕ) (m : Mapping) → holds_address a (shown m) ≡ true → Covers K (pg a) m
  holds_covers a m e = let (p, q) = and-true _ _ e in anc_size a m.h ∙ within m.h m.r a (leb-true _ _ p) (ltb-true _ _ q)

  pub covers_holds : (a : ℕ) (m : Mapping) → Covers K (pg a) m → holds_address a (shown m) ≡ true
  covers_holds a m e = let (p, q) = within_from m.h m.r a (sym (anc_size a m.h) ∙ e) in true_and (le-leb _ _ p) (lt-ltb _ _ q)

  pub cover_lookup : (a : ℕ) (L : List Mapping) → cover_of a (map shown L) ≡ Option.map shown (lookup K (pg a) L)
  unfolding cover_of
  cover_lookup a [] = refl
  cover_lookup a (m ∷ L) = go (holds_address a (shown m)) (ℕ_discrete (anc K m.h (pg a)) m.r) (holds_covers a m) (covers_holds a m) (cover_lookup a L)
    where
      go : (b : Bool) (d : Dec (Covers K (pg a) m)) → (b ≡ true → Covers K (pg a) m) → (Covers K (pg a) m → b ≡ true) → cover_of a (map shown L) ≡ Option.map shown (lookup K (pg a) L)
          → cond b (some (shown m)) (cover_of a (map shown L)) ≡ Option.map shown (ite d (some m) (lookup K (pg a) L))
      go true (yes p) f g ih = refl
      go true (no n) f g ih = absurd (n (f refl))
      go false (yes p) f g ih = absurd (false≢true (g p))
      go false (no n) f g ih = ih

  -- the first address of a region, in regions of another height
  pub first_in : (g h r : ℕ) → anc K h (page K g r) ≡ r * size_at G g / size_at G h
  first_in g h r = ap (anc K h) (sym (page_of g r)) ∙ anc_size (r * size_at G g) h

  -- a smaller region that shares a byte with a larger one starts in it
  inside_larger : (g h r q : ℕ) → g ≤ h → r * size_at G g < q * size_at G h + size_at G h → q * size_at G h < r * size_at G g + size_at G g → r * size_at G g / size_at G h ≡ q
  inside_larger g h r q l a b = within h q (r * size_at G g) start a
    where
      n : ℕ
      n = q * 2 ^ (G.index * (h - g))

      whole : q * size_at G h ≡ n * size_at G g
      whole = ap (λ (j : ℕ). q * size_at G j) (omega arith) ∙ ap (λ (x : ℕ). q * x) (size_add G g (h - g) ∙ mul_comm (size_at G g) (2 ^ (G.index * (h - g)))) ∙ sym (mul_assoc q (2 ^ (G.index * (h - g))) (size_at G g))

      few : n < r + 1
      few = lt_of_mul-lt-mul_right (size_at G g) (omega (arith, add-mul r 1 (size_at G g), whole))

      start : q * size_at G h ≤ r * size_at G g
      start = omega (arith, whole, mul-le-mul_right (size_at G g) (few' few))
        where
          few' : n < r + 1 → n ≤ r
          few' f = omega arith

  -- two mappings share a byte exactly where the larger's region holds the smaller
  pub overlaps_meets : (g r : ℕ) (m : Mapping) → overlaps (r * size_at G g) (size_at G g) (shown m) ≡ true → Meets K g (page K g r) m
  overlaps_meets g r m e = let (p, q) = and-true _ _ e in go (ltb-true _ _ p) (ltb-true _ _ q) (dec_le g m.h)
    where
      go : r * size_at G g < m.r * size_at G m.h + size_at G m.h → m.r * size_at G m.h < r * size_at G g + size_at G g → Dec (g ≤ m.h) → Meets K g (page K g r) m
      go p q (yes l) = let k : max g m.h ≡ m.h = omega arith in
          subst (λ (j : ℕ). anc K j (page K g r) ≡ anc K j (page K m.h m.r)) (sym k) (first_in g m.h r ∙ inside_larger g m.h r m.r l p q ∙ sym (anc_page K m.h m.r (entries_pos G)))
      go p q (no n) = let k : max g m.h ≡ g = omega arith in
          subst (λ (j : ℕ). anc K j (page K g r) ≡ anc K j (page K m.h m.r)) (sym k) (anc_page K g r (entries_pos G) ∙ sym (inside_larger m.h g m.r r (omega arith) q p) ∙ sym (first_in m.h g m.r))

  pub meets_overlaps : (g r : ℕ) (m : Mapping) → Meets K g (page K g r) m → overlaps (r * size_at G g) (size_at G g) (shown m) ≡ true
  meets_overlaps g r m e = go (dec_le g m.h)
    where
      go : Dec (g ≤ m.h) → overlaps (r * size_at G g) (size_at G g) (shown m) ≡ true
      go (yes l) =
          let k : max g m.h ≡ m.h = omega arith in
          let f = sym (first_in g m.h r) ∙ subst (λ (j : ℕ). anc K j (page K g r) ≡ anc K j (page K m.h m.r)) k e ∙ anc_page K m.h m.r (entries_pos G) in
          let (p, q) = within_from m.h m.r (r * size_at G g) f in
          let o : m.r * size_at G m.h < r * size_at G g + size_at G g = omega (arith, p, size_pos G g) in
          true_and (lt-ltb _ _ q) (lt-ltb _ _ o)
      go (no n) =
          let k : max g m.h ≡ g = omega arith in
          let f = sym (first_in m.h g m.r) ∙ sym (subst (λ (j : ℕ). anc K j (page K g r) ≡ anc K j (page K m.h m.r)) k e) ∙ anc_page K g r (entries_pos G) in
          let (p, q) = within_from g r (m.r * size_at G m.h) f in
          let o : r * size_at G g < m.r * size_at G m.h + size_at G m.h = omega (arith, p, size_pos G m.h) in
          true_and (lt-ltb _ _ o) (lt-ltb _ _ q)

  -- some live mapping is met
  abbrev pub Met : ℕ → ℕ → List Mapping → Type 0
  Met g r L = (m : Mapping) × Memᴰ m L × Meets K g (page K g r) m

  pub overlap_met : (g r : ℕ) (L : List Mapping) → any_overlap (r * size_at G g) (size_at G g) (map shown L) ≡ true → Met g r L
  unfolding any_overlap
  overlap_met g r [] e = absurd (false≢true e)
  overlap_met g r (m ∷ L) e = go (or-true _ _ e) (λ d. overlap_met g r L d)
    where
      go : (overlaps (r * size_at G g) (size_at G g) (shown m) ≡ true) ⊎ (any_overlap (r * size_at G g) (size_at G g) (map shown L) ≡ true) → (any_overlap (r * size_at G g) (size_at G g) (map shown L) ≡ true → Met g r L) → Met g r (m ∷ L)
      go (inl d) ih = (m, here refl, overlaps_meets g r m d)
      go (inr d) ih = let (k, a, b) = ih d in (k, there a, b)

  pub met_overlap : (g r : ℕ) (L : List Mapping) → Met g r L → any_overlap (r * size_at G g) (size_at G g) (map shown L) ≡ true
  unfolding any_overlap
  met_overlap g r [] (m, a, b) = absurd (Memᴰ.not-nil a)
  met_overlap g r (k ∷ L) (m, a, b) = true_or _ _ (⊎_elim (λ e. inl (meets_overlaps g r k (subst (Meets K g (page K g r)) e b))) (λ n. inr (met_overlap g r L (m, n, b))) (Memᴰ.cases_cons a))

  -- the ledger without the mapping at an address
  pub drop_without : (h r : ℕ) (L : List Mapping) → ((m : Mapping) → Memᴰ m L → m.r * size_at G m.h ≡ r * size_at G h → Same h r m.h m.r) → drop_at (r * size_at G h) (map shown L) ≡ map shown (without h r L)
  unfolding drop_at
  drop_without h r [] f = refl
  drop_without h r (m ∷ L) f = go (eqb (m.r * size_at G m.h) (r * size_at G h)) (same? h r m.h m.r) (λ e. f m (here refl) (eqb-true _ _ e)) (λ s. eq-eqb _ _ (at s)) (drop_without h r L (λ k a. f k (there a)))
    where
      at : Same h r m.h m.r → m.r * size_at G m.h ≡ r * size_at G h
      at s = let a = s.0 in let b = s.1 in cc

      go : (b : Bool) (d : Dec (Same h r m.h m.r)) → (b ≡ true → Same h r m.h m.r) → (Same h r m.h m.r → b ≡ true) → drop_at (r * size_at G h) (map shown L) ≡ map shown (without h r L)
          → cond b (drop_at (r * size_at G h) (map shown L)) (shown m ∷ drop_at (r * size_at G h) (map shown L)) ≡ map shown (drop_if d m (without h r L))
      go true (yes p) f g ih = ih
      go true (no n) f g ih = absurd (n (f refl))
      go false (yes p) f g ih = absurd (false≢true (g p))
      go false (no n) f g ih = ap (λ (l : List answers.Mapping). shown m ∷ l) ih

  -- a region of the theory, as the ledger has it
  abbrev pub shown_region : Reg → Region
  shown_region a = region (size_at G a.h) (a.r * size_at G a.h)

  size_lt : (g h : ℕ) → size_at G g < size_at G h → g < h
  size_lt g h l = go (dec_lt g h)
    where
      go : Dec (g < h) → g < h
      go (yes p) = p
      go (no n) = absurd (omega (arith, size_le G {j = h} {h = g} (omega arith)))

  -- the base of the region around an address
  pub base_is : (a h : ℕ) → base_at G a h ≡ a / size_at G h * size_at G h
  unfolding base_at
  base_is a h = omega (arith, div-add-mod' a (size_at G h))

  pub base_first : (m : Mapping) (h : ℕ) → base_at G (m.r * size_at G m.h) h ≡ anc K h (page K m.h m.r) * size_at G h
  base_first m h = base_is (m.r * size_at G m.h) h ∙ ap (λ (x : ℕ). x * size_at G h) (sym (first_in m.h h m.r))

  spine_none : (g v k : ℕ) → k ≤ g → spine K g v k ≡ []
  spine_none g v zero l = refl
  spine_none g v (suc k) l = if_neg (dec_lt g (suc k)) (λ a. omega arith) (reg (suc k) (anc K (suc k) v) ∷ spine K g v k) []

  -- the regions that a mapping needs
  pub regions_spine : (m : Mapping) (k : ℕ) → regions_of G (shown m) k ≡ map shown_region (spine K m.h (page K m.h m.r) k)
  unfolding regions_of
  regions_spine m zero = refl
  regions_spine m (suc k) = go (ltb (size_at G m.h) (size_at G (suc k))) (dec_lt m.h (suc k)) (λ e. size_lt m.h (suc k) (ltb-true _ _ e)) (λ l. lt-ltb _ _ (size_rises G Z l)) (regions_spine m k)
    where
      go : (b : Bool) (d : Dec (m.h < suc k)) → (b ≡ true → m.h < suc k) → (m.h < suc k → b ≡ true) → regions_of G (shown m) k ≡ map shown_region (spine K m.h (page K m.h m.r) k)
          → cond b (region (size_at G (suc k)) (base_at G (m.r * size_at G m.h) (suc k)) ∷ regions_of G (shown m) k) (regions_of G (shown m) k)
          ≡ map shown_region (ite d (reg (suc k) (anc K (suc k) (page K m.h m.r)) ∷ spine K m.h (page K m.h m.r) k) [])
      go true (yes p) f g ih = rw (base_first m (suc k), ih)
      go true (no n) f g ih = absurd (n (f refl))
      go false (yes p) f g ih = absurd (false≢true (g p))
      go false (no n) f g ih = ih ∙ ap (map shown_region) (spine_none m.h (page K m.h m.r) k (omega arith))

  -- having a region
  pub has_member : (a : Reg) (R : List Reg) → has_region (shown_region a) (map shown_region R) ≡ true → Memᴰ a R
  unfolding has_region
  has_member a [] e = absurd (false≢true e)
  has_member a (b ∷ R) e = go (or-true _ _ e) (λ d. has_member a R d)
    where
      go : ((eqb (size_at G b.h) (size_at G a.h) && eqb (b.r * size_at G b.h) (a.r * size_at G a.h)) ≡ true) ⊎ (has_region (shown_region a) (map shown_region R) ≡ true) → (has_region (shown_region a) (map shown_region R) ≡ true → Memᴰ a R) → Memᴰ a (b ∷ R)
      go (inl d) ih =
          let (p, q) = and-true _ _ d in
          let u : b.h ≡ a.h = size_injective G Z b.h a.h (eqb-true _ _ p) in
          let w : a.r ≡ b.r = sym (mul-div_cancel a.r (size_pos G a.h)) ∙ ap (λ (x : ℕ). x / size_at G a.h) (sym (eqb-true _ _ q)) ∙ ap (λ (j : ℕ). b.r * size_at G j / size_at G a.h) u ∙ mul-div_cancel b.r (size_pos G a.h) in
          let u' = sym u in here (λ i. reg (u' i) (w i))
      go (inr d) ih = there (ih d)

  pub member_has : (a : Reg) (R : List Reg) → Memᴰ a R → has_region (shown_region a) (map shown_region R) ≡ true
  unfolding has_region
  member_has a [] m = absurd (Memᴰ.not-nil m)
  member_has a (b ∷ R) m = true_or _ _ (⊎_elim (λ e. inl (true_and (eq-eqb _ _ (ap (λ (z : Reg). size_at G z.h) (sym e))) (eq-eqb _ _ (ap (λ (z : Reg). z.r * size_at G z.h) (sym e))))) (λ n. inr (member_has a R n)) (Memᴰ.cases_cons m))

  -- new regions, added to a list, without repetition
  new_added : (Q R : List Reg) → Distinct Q → new_regions (map shown_region Q) (map shown_region R) ++ map shown_region R ≡ map shown_region (add_all Q R)
  unfolding new_regions
  new_added [] R d = refl
  new_added (a ∷ Q) R d = go (has_region (shown_region a) (map shown_region R)) (member? a (add_all Q R)) (λ e. add_all_has Q R a (inr (has_member a R e))) back (new_added Q R d.1)
    where
      back : Memᴰ a (add_all Q R) → has_region (shown_region a) (map shown_region R) ≡ true
      back m = ⊎_elim (λ n. absurd (d.0 n)) (λ n. member_has a R n) (add_all_from Q R a m)

      go : (b : Bool) (w : Dec (Memᴰ a (add_all Q R))) → (b ≡ true → Memᴰ a (add_all Q R)) → (Memᴰ a (add_all Q R) → b ≡ true)
          → new_regions (map shown_region Q) (map shown_region R) ++ map shown_region R ≡ map shown_region (add_all Q R)
          → cond b (new_regions (map shown_region Q) (map shown_region R)) (shown_region a ∷ new_regions (map shown_region Q) (map shown_region R)) ++ map shown_region R ≡ map shown_region (add_if w a (add_all Q R))
      go true (yes p) f g ih = ih
      go true (no n) f g ih = absurd (n (f refl))
      go false (yes p) f g ih = absurd (false≢true (g p))
      go false (no n) f g ih = ap (λ (l : List Region). shown_region a ∷ l) ih

  spine_distinct : (g v k : ℕ) → Distinct (spine K g v k)
  spine_distinct g v zero = tt
  spine_distinct g v (suc k) = go (dec_lt g (suc k)) (spine_distinct g v k)
    where
      go : (d : Dec (g < suc k)) → Distinct (spine K g v k) → Distinct (ite d (reg (suc k) (anc K (suc k) v) ∷ spine K g v k) [])
      go (yes p) ih = (λ m. let (a, b, c) = spine_from K g v k (reg (suc k) (anc K (suc k) v)) m in omega arith, ih)
      go (no n) ih = tt

  -- the regions that live mappings need
  pub needed_shown : (k : ℕ) (L : List Mapping) → regions_needed G k (map shown L) ≡ map shown_region (needed K k L)
  unfolding regions_needed
  needed_shown k [] = refl
  needed_shown k (m ∷ L) = rw (needed_shown k L, regions_spine m k) (new_added (spine K m.h (page K m.h m.r) k) (needed K k L) (spine_distinct m.h (page K m.h m.r) k))

  -- the new regions that one more mapping needs are as many as the theory says
  lacking_from : (k : ℕ) (L : List Mapping) (g v j : ℕ) → j ≤ k → length (new_regions (map shown_region (spine K g v j)) (map shown_region (needed K k L))) ≡ lack K L g v j
  unfolding new_regions
  lacking_from k L g v zero l = refl
  lacking_from k L g v (suc j) l = go (dec_lt g (suc j)) (lacking_from k L g v j (omega arith))
    where
      a : Reg
      a = reg (suc j) (anc K (suc j) v)

      go : (d : Dec (g < suc j)) → length (new_regions (map shown_region (spine K g v j)) (map shown_region (needed K k L))) ≡ lack K L g v j
          → length (new_regions (map shown_region (ite d (a ∷ spine K g v j) [])) (map shown_region (needed K k L))) ≡ ite d (ite (needs? K L (suc j) (anc K (suc j) v)) (lack K L g v j) (suc (lack K L g v j))) 0
      go (no n) ih = refl
      go (yes p) ih = on (has_region (shown_region a) (map shown_region (needed K k L))) (needs? K L (suc j) (anc K (suc j) v)) (λ e. (needed_from K k L a (has_member a (needed K k L) e)).1) (λ w. member_has a (needed K k L) (needed_has K k L a l w))
        where
          on : (b : Bool) (w : Dec (Needs K L (suc j) (anc K (suc j) v))) → (b ≡ true → Needs K L (suc j) (anc K (suc j) v)) → (Needs K L (suc j) (anc K (suc j) v) → b ≡ true)
              → length (cond b (new_regions (map shown_region (spine K g v j)) (map shown_region (needed K k L))) (shown_region a ∷ new_regions (map shown_region (spine K g v j)) (map shown_region (needed K k L)))) ≡ ite w (lack K L g v j) (suc (lack K L g v j))
          on true (yes q) f h = ih
          on true (no n) f h = absurd (n (f refl))
          on false (yes q) f h = absurd (false≢true (h q))
          on false (no n) f h = ap suc ih

  pub lacking_is : (k : ℕ) (L : List Mapping) (m : Mapping) → length (new_regions (regions_of G (shown m) k) (regions_needed G k (map shown L))) ≡ lack K L m.h (page K m.h m.r) k
  lacking_is k L m = rw (needed_shown k L, regions_spine m k) (lacking_from k L m.h (page K m.h m.r) k (omega arith))

  pub needed_count : (k : ℕ) (L : List Mapping) → length (regions_needed G k (map shown L)) ≡ length (needed K k L)
  needed_count k L = ap length (needed_shown k L) ∙ length-map (needed K k L) shown_region
