-- Laws of list: what a mapping's two numbers say; lists whose bases rise; the ledger's order; and page by page.
use Rattle.std.specs.Prelude.{ℕ, zero, suc, ◌+◌, ◌-◌, ◌*◌, ◌^◌, ◌≤◌, ◌<◌, ◌↔◌, ◌≢◌, ◌⊎◌, Bool, true, false, cond, leb, length, get_or, take, drop}
use Rattle.std.proofs.Math.Path.{◌≡◌, refl, sym, ap, ap₂, subst}
use Rattle.std.proofs.Common.{◌∙◌, inl, inr, ⊎_elim, length-append, length-drop, take-append-drop, drop_of_length-le, take_at, drop_at, drop-drop, take-add, get_or-drop}
use mathlib.Core.List.Memᴰ
use mathlib.Core.List.Memᴰ.{head as here}
use mathlib.Core.List.Memᴰ.{tail as there}
use mathlib.Core.List.{List, [], ◌∷◌, ◌++◌, map, Memᴰ}
use Rattle.std.proofs.Math.Option.{Option, some, none}
use native.Mathlib.Omega.{arith}
use Rattle.std.proofs.lemmas.List.{length-map}
use Rattle.std.proofs.Math.Seq.{take-nil, drop-nil}
use borrow.Author.Tests.{leb-true, leb-false, le-leb, lt-leb, eq-eqb}
use Rattle.laws.specs.Lists.{Distinct}
use Rattle.laws.specs.ListLaws.{get_d_first, get_d_later}
use Rattle.path.specs.Geometry.{Granule, Sane, size_at, space_of, height_of}
use Rattle.path.specs.Laws.{size_pos, size_height, space_some, good_setup_lem}
use Rattle.model.specs.Answers.{Mapping, Answer, refusal, Pool}
use Rattle.model.specs.Calls.{good_pool}
use Rattle.model.specs.Audit.{of_pool}
use Rattle.model.specs.Adds.{sound_tree}
use Rattle.model.specs.Sound.{Each, mappings_of, Rising, WellFormed}
use Rattle.model.proofs.AuditLaws.{each_nil, each_cons}
use Rattle.model.proofs.MappingLaws.{pool_rises, pool_within, pool_well}
use Rattle.model.proofs.DescentLaws.{clash}
use Rattle.model.specs.Ledger.{insert, sorted}
use Rattle.model.specs.Listing.{power_of, place_of, entry_of, from_on, listing, listed_of, list_w, over, places_in, entries_in, next_in, pages_from, start_after, joined, places_of, Pages, Climbing}
use Rattle.model.specs.ListingLaws.{first_base}

-- ---- one mapping

-- the power of two is that of the size
pub power_size : {G : Granule} → Sane G → (m : Mapping) → WellFormed G m → 2 ^ power_of G m ≡ m.size
unfolding size_at
power_size {G} S m W = ap (λ (h : ℕ). 2 ^ (G.page + G.index * h)) (ap (height_of G) W.sized ∙ size_height G S W.framed.level) ∙ sym W.sized

-- ---- bases that rise

pub climbing_down : {lo mid : ℕ} (L : List Mapping) → lo ≤ mid → Climbing mid L → Climbing lo L
unfolding Climbing
climbing_down [] l c = tt
climbing_down (m ∷ L) l c = (omega (arith, c.0), c.1)

-- all of them are at lo or above
pub climbing_above : (lo : ℕ) (L : List Mapping) → Climbing lo L → Each (λ m. lo ≤ m.at) L
unfolding Climbing
climbing_above lo [] c = each_nil (λ m. lo ≤ m.at)
climbing_above lo (m ∷ L) c = each_cons (λ m. lo ≤ m.at) m L c.0 (λ k i. omega (arith, c.0, climbing_above (suc m.at) L c.1 k i))

-- mappings that rise end to end, of which none is empty, have bases that rise
pub rising_climbing : (lo hi : ℕ) (L : List Mapping) → Rising lo hi L → Each (λ m. 0 < m.size) L → Climbing lo L
unfolding Rising Climbing
rising_climbing lo hi [] r s = tt
rising_climbing lo hi (m ∷ L) r s =
    (r.0, climbing_down L (omega (arith, s m (here refl))) (rising_climbing (m.at + m.size) hi L r.1 (λ k i. s k (there i))))

-- no mapping stands twice
pub climbing_distinct : (lo : ℕ) (L : List Mapping) → Climbing lo L → Distinct L
unfolding Climbing
climbing_distinct lo [] c = tt
climbing_distinct lo (m ∷ L) c = (λ i. omega (arith, climbing_above (suc m.at) L c.1 m i), climbing_distinct (suc m.at) L c.1)

-- two with one base are one
pub climbing_one : (lo : ℕ) (L : List Mapping) → Climbing lo L → (m k : Mapping) → Memᴰ m L → Memᴰ k L → m.at ≡ k.at → m ≡ k
unfolding Climbing
climbing_one lo [] c m k i j e = absurd (Memᴰ.not-nil i)
climbing_one lo (x ∷ L) c m k i j e = go (Memᴰ.cases_cons i) (Memᴰ.cases_cons j) (λ p q. climbing_one (suc x.at) L c.1 m k p q e)
  where
    go : (m ≡ x) ⊎ Memᴰ m L → (k ≡ x) ⊎ Memᴰ k L → (Memᴰ m L → Memᴰ k L → m ≡ k) → m ≡ k
    go (inl p) (inl q) ih = p ∙ sym q
    go (inl p) (inr q) ih = absurd (omega (arith, ap (λ (y : Mapping). y.at) p, climbing_above (suc x.at) L c.1 k q))
    go (inr p) (inl q) ih = absurd (omega (arith, ap (λ (y : Mapping). y.at) q, climbing_above (suc x.at) L c.1 m p))
    go (inr p) (inr q) ih = ih p q

-- two lists with the same members whose bases rise are one
pub climbing_same : (lo hi : ℕ) (a b : List Mapping) → Climbing lo a → Climbing hi b
    → ((m : Mapping) → Memᴰ m a → Memᴰ m b) → ((m : Mapping) → Memᴰ m b → Memᴰ m a) → a ≡ b
unfolding Climbing
climbing_same lo hi [] [] c d f g = refl
climbing_same lo hi [] (y ∷ b) c d f g = absurd (Memᴰ.not-nil (g y (here refl)))
climbing_same lo hi (x ∷ a) [] c d f g = absurd (Memᴰ.not-nil (f x (here refl)))
climbing_same lo hi (x ∷ a) (y ∷ b) c d f g =
    let rest = climbing_same (suc x.at) (suc y.at) a b c.1 d.1 more back in λ i. first i ∷ rest i
  where
    low : (z : Mapping) (l : List Mapping) → Climbing (suc z.at) l → (m : Mapping) → (m ≡ z) ⊎ Memᴰ m l → z.at ≤ m.at
    low z l q m (inl e) = omega (arith, ap (λ (k : Mapping). k.at) e)
    low z l q m (inr i) = omega (arith, climbing_above (suc z.at) l q m i)

    head : (x ≡ y) ⊎ Memᴰ x b → x ≡ y
    head (inl e) = e
    head (inr i) = absurd (omega (arith, climbing_above (suc y.at) b d.1 x i, low x a c.1 y (Memᴰ.cases_cons (g y (here refl)))))

    first : x ≡ y
    first = head (Memᴰ.cases_cons (f x (here refl)))

    past : (z : Mapping) (l : List Mapping) → Climbing (suc z.at) l → (w : Mapping) → z.at ≡ w.at → (m : Mapping) → Memᴰ m l → m ≢ w
    past z l q w e m i u = omega (arith, climbing_above (suc z.at) l q m i, ap (λ (k : Mapping). k.at) u)

    at : x.at ≡ y.at
    at = ap (λ (k : Mapping). k.at) first

    more : (m : Mapping) → Memᴰ m a → Memᴰ m b
    more m i = ⊎_elim (λ e. absurd (past x a c.1 y at m i e)) (λ j. j) (Memᴰ.cases_cons (f m (there i)))

    back : (m : Mapping) → Memᴰ m b → Memᴰ m a
    back m i = ⊎_elim (λ e. absurd (past y b d.1 x (sym at) m i e)) (λ j. j) (Memᴰ.cases_cons (g m (there i)))

-- ---- the ledger's order

insert_new : (m : Mapping) (L : List Mapping) → Memᴰ m (insert m L)
unfolding insert
insert_new m [] = here refl
insert_new m (k ∷ L) = go (leb m.at k.at) (insert_new m L)
  where
    go : (b : Bool) → Memᴰ m (insert m L) → Memᴰ m (cond b (m ∷ k ∷ L) (k ∷ insert m L))
    go true i = here refl
    go false i = there i

insert_old : (m : Mapping) (L : List Mapping) (x : Mapping) → Memᴰ x L → Memᴰ x (insert m L)
unfolding insert
insert_old m [] x i = absurd (Memᴰ.not-nil i)
insert_old m (k ∷ L) x i = go (leb m.at k.at) (Memᴰ.cases_cons i) (insert_old m L x)
  where
    go : (b : Bool) → (x ≡ k) ⊎ Memᴰ x L → (Memᴰ x L → Memᴰ x (insert m L)) → Memᴰ x (cond b (m ∷ k ∷ L) (k ∷ insert m L))
    go true j f = there i
    go false (inl e) f = here e
    go false (inr j) f = there (f j)

insert_only : (m : Mapping) (L : List Mapping) (x : Mapping) → Memᴰ x (insert m L) → (x ≡ m) ⊎ Memᴰ x L
unfolding insert
insert_only m [] x i = Memᴰ.cases_cons i
insert_only m (k ∷ L) x i = go (leb m.at k.at) i (insert_only m L x)
  where
    go : (b : Bool) → Memᴰ x (cond b (m ∷ k ∷ L) (k ∷ insert m L)) → (Memᴰ x (insert m L) → (x ≡ m) ⊎ Memᴰ x L) → (x ≡ m) ⊎ Memᴰ x (k ∷ L)
    go true j f = Memᴰ.cases_cons j
    go false j f = ⊎_elim (λ e. inr (here e)) (λ q. ⊎_elim (λ e. inl e) (λ r. inr (there r)) (f q)) (Memᴰ.cases_cons j)

-- the same mappings
pub sorted_all : (L : List Mapping) (x : Mapping) → Memᴰ x (sorted L) ↔ Memᴰ x L
unfolding sorted
sorted_all L x = (from L, to L)
  where
    from : (L : List Mapping) → Memᴰ x (sorted L) → Memᴰ x L
    from [] i = i
    from (m ∷ L) i = ⊎_elim (λ e. here e) (λ j. there (from L j)) (insert_only m (sorted L) x i)

    to : (L : List Mapping) → Memᴰ x L → Memᴰ x (sorted L)
    to [] i = i
    to (m ∷ L) i = ⊎_elim (λ e. Memᴰ.cast e (insert_new m (sorted L))) (λ j. insert_old m (sorted L) x (to L j)) (Memᴰ.cases_cons i)

insert_climbs : (m : Mapping) (lo : ℕ) (L : List Mapping) → lo ≤ m.at → Climbing lo L → Each (λ k. k.at ≢ m.at) L → Climbing lo (insert m L)
unfolding insert Climbing
insert_climbs m lo [] l c f = (l, tt)
insert_climbs m lo (k ∷ L) l c f = go (leb m.at k.at) refl (λ h. insert_climbs m (suc k.at) L h c.1 (λ x i. f x (there i)))
  where
    go : (b : Bool) → leb m.at k.at ≡ b → (k.at < m.at → Climbing (suc k.at) (insert m L)) → Climbing lo (cond b (m ∷ k ∷ L) (k ∷ insert m L))
    go true e g = (l, (omega (arith, leb-true m.at k.at e, f k (here refl)), c.1))
    go false e g = (c.0, g (leb-false _ _ e))

-- mappings each of which stands once, in a list of which no two members have one base
pub sorted_climbs : (L : List Mapping) → Distinct L → ((m k : Mapping) → Memᴰ m L → Memᴰ k L → m.at ≡ k.at → m ≡ k) → Climbing 0 (sorted L)
unfolding sorted Climbing
sorted_climbs [] d f = tt
sorted_climbs (m ∷ L) d f =
    insert_climbs m 0 (sorted L) (omega arith) (sorted_climbs L d.1 (λ a b i j. f a b (there i) (there j)))
    (λ k i e. let j = (sorted_all L k).0 i in d.0 (Memᴰ.cast (sym (f k m (there j) (here refl) e)) j))

-- so a ledger's order is the only one in which bases rise
pub sorted_is : (lo : ℕ) (L M : List Mapping) → Distinct L → Climbing lo M
    → ((m : Mapping) → Memᴰ m L → Memᴰ m M) → ((m : Mapping) → Memᴰ m M → Memᴰ m L) → sorted L ≡ M
sorted_is lo L M d c f g =
    climbing_same 0 lo (sorted L) M (sorted_climbs L d (λ m k i j. climbing_one lo M c m k (f m i) (f k j))) c
    (λ m i. f m ((sorted_all L m).0 i)) (λ m i. (sorted_all L m).1 (g m i))

-- ---- from a start on

-- a list that begins at the start or above is kept whole
pub from_low : (start lo : ℕ) (L : List Mapping) → start ≤ lo → Climbing lo L → from_on start L ≡ L
unfolding from_on Climbing
from_low start lo [] l c = refl
from_low start lo (m ∷ L) l c =
    ap (λ (b : Bool). cond b (m ∷ from_on start L) (from_on start L)) (le-leb start m.at (omega (arith, c.0)))
    ∙ ap (λ (k : List Mapping). m ∷ k) (from_low start (suc m.at) L (omega (arith, c.0)) c.1)

-- what is kept rises
pub from_climbs : (start lo : ℕ) (L : List Mapping) → Climbing lo L → Climbing start (from_on start L)
unfolding from_on Climbing
from_climbs start lo [] c = tt
from_climbs start lo (m ∷ L) c = go (leb start m.at) refl (from_climbs start (suc m.at) L c.1)
  where
    go : (b : Bool) → leb start m.at ≡ b → Climbing start (from_on start L) → Climbing start (cond b (m ∷ from_on start L) (from_on start L))
    go true e ih = (leb-true _ _ e, subst (Climbing (suc m.at)) (sym (from_low start (suc m.at) L (omega (arith, leb-true start m.at e)) c.1)) c.1)
    go false e ih = ih

-- joined lists
pub from_append : (start : ℕ) (L M : List Mapping) → from_on start (L ++ M) ≡ from_on start L ++ from_on start M
unfolding from_on
from_append start [] M = refl
from_append start (m ∷ L) M = go (leb start m.at) (from_append start L M)
  where
    go : (b : Bool) → from_on start (L ++ M) ≡ from_on start L ++ from_on start M
        → cond b (m ∷ from_on start (L ++ M)) (from_on start (L ++ M)) ≡ cond b (m ∷ from_on start L) (from_on start L) ++ from_on start M
    go true e = ap (λ (k : List Mapping). m ∷ k) e
    go false e = e

-- of mappings that are all below the start none is kept
pub from_none : (start : ℕ) (L : List Mapping) → Each (λ m. m.at < start) L → from_on start L ≡ []
unfolding from_on
from_none start [] f = refl
from_none start (m ∷ L) f = rw (lt-leb start m.at (f m (here refl))) (from_none start L (λ k i. f k (there i)))

-- what is kept: the mappings with base at the start or above
pub from_all : (start : ℕ) (L : List Mapping) (x : Mapping) → Memᴰ x (from_on start L) ↔ (Memᴰ x L × (start ≤ x.at))
unfolding from_on
from_all start L x = (from L, to L)
  where
    from : (L : List Mapping) → Memᴰ x (from_on start L) → Memᴰ x L × (start ≤ x.at)
    from [] i = absurd (Memᴰ.not-nil i)
    from (m ∷ L) i = go (leb start m.at) refl i (from L)
      where
        go : (b : Bool) → leb start m.at ≡ b → Memᴰ x (cond b (m ∷ from_on start L) (from_on start L)) → (Memᴰ x (from_on start L) → Memᴰ x L × (start ≤ x.at))
            → Memᴰ x (m ∷ L) × (start ≤ x.at)
        go true e j f = ⊎_elim (λ q. (here q, omega (arith, ap (λ (k : Mapping). k.at) q, leb-true start m.at e))) (λ r. let (u, v) = f r in (there u, v)) (Memᴰ.cases_cons j)
        go false e j f = let (u, v) = f j in (there u, v)

    to : (L : List Mapping) → Memᴰ x L × (start ≤ x.at) → Memᴰ x (from_on start L)
    to [] (i, l) = i
    to (m ∷ L) (i, l) = go (leb start m.at) refl (Memᴰ.cases_cons i) (λ j. to L (j, l))
      where
        go : (b : Bool) → leb start m.at ≡ b → (x ≡ m) ⊎ Memᴰ x L → (Memᴰ x L → Memᴰ x (from_on start L)) → Memᴰ x (cond b (m ∷ from_on start L) (from_on start L))
        go true e (inl q) f = here q
        go true e (inr j) f = there (f j)
        go false e (inl q) f = absurd (omega (arith, ap (λ (k : Mapping). k.at) q, leb-false start m.at e))
        go false e (inr j) f = f j

-- what is kept twice is kept from the later start on
from_from : (start later : ℕ) (L : List Mapping) → start ≤ later → from_on later (from_on start L) ≡ from_on later L
unfolding from_on
from_from start later [] l = refl
from_from start later (m ∷ L) l = go (leb start m.at) refl (from_from start later L l)
  where
    go : (b : Bool) → leb start m.at ≡ b → from_on later (from_on start L) ≡ from_on later L
        → from_on later (cond b (m ∷ from_on start L) (from_on start L)) ≡ cond (leb later m.at) (m ∷ from_on later L) (from_on later L)
    go true e ih = ap (λ (k : List Mapping). cond (leb later m.at) (m ∷ k) k) ih
    go false e ih = rw (lt-leb later m.at (omega (arith, leb-false start m.at e))) ih

-- from a member's base on, that member and what stands after it
from_member : (lo : ℕ) (a : List Mapping) (m : Mapping) (b : List Mapping) → Climbing lo (a ++ m ∷ b) → from_on m.at (a ++ m ∷ b) ≡ m ∷ b
unfolding from_on Climbing
from_member lo [] m b c =
    rw (le-leb m.at m.at (omega arith)) (ap (λ (k : List Mapping). m ∷ k) (from_low m.at (suc m.at) b (omega arith) c.1))
from_member lo (x ∷ a) m b c =
    rw (lt-leb m.at x.at (climbing_above (suc x.at) (a ++ m ∷ b) c.1 m (Memᴰ.append_right a (here refl)))) (from_member (suc x.at) a m b c.1)

-- so where a member of what is kept from a start on begins the rest, that rest is what is kept from the member's base on
pub from_again : (start lo : ℕ) (L : List Mapping) (a : List Mapping) (m : Mapping) (b : List Mapping) → Climbing lo L → from_on start L ≡ a ++ m ∷ b → from_on m.at L ≡ m ∷ b
from_again start lo L a m b c e =
    sym (from_from start m.at L (climbing_above start (a ++ m ∷ b) rises m (Memᴰ.append_right a (here refl))))
    ∙ ap (from_on m.at) e
    ∙ from_member start a m b rises
  where
    rises : Climbing start (a ++ m ∷ b)
    rises = subst (Climbing start) e (from_climbs start lo L c)

module _ (G : Granule) where
  pub listing_places : (W R : List Mapping) → places_in (listing G W R) ≡ map (place_of G) W
  listing_places W [] = take_at (map (place_of G) W) (map (entry_of G) W) (length W) (length-map W (place_of G))
  listing_places W (m ∷ R) = take_at (map (place_of G) W) (map (entry_of G) W) (length W) (length-map W (place_of G))

  pub listing_entries : (W R : List Mapping) → entries_in (listing G W R) ≡ map (entry_of G) W
  listing_entries W [] = drop_at (map (place_of G) W) (map (entry_of G) W) (length W) (length-map W (place_of G))
  listing_entries W (m ∷ R) = drop_at (map (place_of G) W) (map (entry_of G) W) (length W) (length-map W (place_of G))

  listing_next : (W R : List Mapping) → next_in (listing G W R) ≡ first_base R
  listing_next W [] = refl
  listing_next W (m ∷ R) = refl

  module _ (k : ℕ) (L : List Mapping) where
    pub listed_places : places_in (listed_of G k L) ≡ map (place_of G) (take k L)
    unfolding listed_of
    listed_places = listing_places (take k L) (drop k L)

    pub listed_entries : entries_in (listed_of G k L) ≡ map (entry_of G) (take k L)
    unfolding listed_of
    listed_entries = listing_entries (take k L) (drop k L)

    listed_next : next_in (listed_of G k L) ≡ first_base (drop k L)
    unfolding listed_of
    listed_next = listing_next (take k L) (drop k L)

-- the runs after it: their lengths stay, the first places have what was written, and the places past them what stood there
pub over_length : (new run : List ℕ) → length new ≤ length run → length (over new run) ≡ length run
over_length new run l = length-append new (drop (length new) run) ∙ omega (arith, length-drop (length new) run)

pub over_first : (new run : List ℕ) (i : ℕ) → i < length new → get_or (over new run) i 0 ≡ get_or new i 0
over_first new run i l = get_d_first new (drop (length new) run) i l

pub over_past : (new run : List ℕ) (i : ℕ) → length new ≤ i → get_or (over new run) i 0 ≡ get_or run i 0
over_past new run i l =
    get_d_later new (drop (length new) run) i l ∙ get_or-drop (length new) run (i - length new) 0 ∙ ap (λ (j : ℕ). get_or run j 0) (omega arith)

-- ---- what is answered

-- a list is no refusal
pub lists_not : (G : Granule) (places : ℕ) (L : List Mapping) (n : ℕ) (v : List ℕ) → listed_of G places L ≢ refusal n v
unfolding listed_of
lists_not G places L n v = go (take places L) (drop places L)
  where
    go : (W R : List Mapping) → listing G W R ≢ refusal n v
    go W [] e = clash (cc)
    go W (m ∷ R) e = clash (cc)

-- ---- page by page

map_append : {A B : Type 0} (f : A → B) (l k : List A) → map f (l ++ k) ≡ map f l ++ map f k
map_append f [] k = refl
map_append {B = B} f (a ∷ l) k = ap (λ (z : List B). f a ∷ z) (map_append f l k)

-- mappings whose bases rise and stay below a limit, and calls from below the limit that list them
module _ (G : Granule) (L : List Mapping) (c : Climbing 0 L) (limit : ℕ) (within : Each (λ m. m.at < limit) L) (page : ℕ → ℕ → Answer)
    (lists : (a k : ℕ) → a < limit → page a k ≡ listed_of G k (from_on a L)) where
  -- what is left: each call from its first base on lists it
  abbrev Left : List Mapping → Type 0
  Left R = (m : Mapping) (b : List Mapping) → R ≡ m ∷ b → (from_on m.at L ≡ R) × (m.at < limit)

  left_after : (a k : ℕ) (R : List Mapping) → from_on a L ≡ R → Left (drop k R)
  left_after a k R e m b q =
      (from_again a 0 L (take k R) m b c parts ∙ sym q, within m ((from_all a L m).0 (subst (λ (l : List Mapping). Memᴰ m l) (sym parts) (Memᴰ.append_right (take k R) (here refl)))).0)
    where
      parts : from_on a L ≡ take k R ++ m ∷ b
      parts = e ∙ sym (take-append-drop k R) ∙ ap (λ (l : List Mapping). take k R ++ l) q

  -- so many pages wrote so many of the mappings that were left, and answer the base of the next
  pub record Written (ks : List ℕ) (start : Option ℕ) (R : List Mapping) : Type 0 where
    pub places : joined places_in (pages_from page ks start) ≡ map (place_of G) (take (places_of ks) R)
    pub entries : joined entries_in (pages_from page ks start) ≡ map (entry_of G) (take (places_of ks) R)
    pub after : start_after page ks start ≡ first_base (drop (places_of ks) R)

  one_more : (a k : ℕ) (ks : List ℕ) (R : List Mapping) → a < limit → from_on a L ≡ R → Written ks (first_base (drop k R)) (drop k R) → Written (k ∷ ks) (some a) R
  unfolding pages_from start_after joined places_of
  one_more a k ks R l e w = record {
    places = ap₂ (λ (x y : List ℕ). x ++ y) (ap places_in is ∙ listed_places G k R) (ap (λ (o : Option ℕ). joined places_in (pages_from page ks o)) next ∙ w.places)
        ∙ sym (map_append (place_of G) (take k R) (take (places_of ks) (drop k R))) ∙ ap (map (place_of G)) (sym (take-add k (places_of ks) R));
    entries = ap₂ (λ (x y : List ℕ). x ++ y) (ap entries_in is ∙ listed_entries G k R) (ap (λ (o : Option ℕ). joined entries_in (pages_from page ks o)) next ∙ w.entries)
        ∙ sym (map_append (entry_of G) (take k R) (take (places_of ks) (drop k R))) ∙ ap (map (entry_of G)) (sym (take-add k (places_of ks) R));
    after = ap (start_after page ks) next ∙ w.after ∙ ap first_base (drop-drop (places_of ks) k R);
  }
    where
      is : page a k ≡ listed_of G k R
      is = lists a k l ∙ ap (listed_of G k) e

      next : next_in (page a k) ≡ first_base (drop k R)
      next = ap next_in is ∙ listed_next G k R

  pages_on : (ks : List ℕ) (R : List Mapping) → Left R → Written ks (first_base R) R
  unfolding pages_from start_after joined places_of
  pages_on [] R f = record { places = refl; entries = refl; after = refl }
  pages_on (k ∷ ks) [] f = record {
    places = ap (map (place_of G)) (sym (take-nil (places_of (k ∷ ks))));
    entries = ap (map (entry_of G)) (sym (take-nil (places_of (k ∷ ks))));
    after = ap first_base (sym (drop-nil (places_of (k ∷ ks))));
  }
  pages_on (k ∷ ks) (m ∷ R) f = let (e, l) = f m R refl in one_more m.at k ks (m ∷ R) l e (pages_on ks (drop k (m ∷ R)) (left_after m.at k (m ∷ R) e))

  -- pages from any start on
  pub pages_written : (a k : ℕ) (ks : List ℕ) → a < limit → Written (k ∷ ks) (some a) (from_on a L)
  pages_written a k ks l = one_more a k ks (from_on a L) l refl (pages_on ks (drop k (from_on a L)) (left_after a k (from_on a L) refl))

  -- pages of at least one place have at least as many places as they are
  enough_places : (ks : List ℕ) → Each (λ k. 1 ≤ k) ks → length ks ≤ places_of ks
  unfolding places_of
  enough_places [] f = omega arith
  enough_places (k ∷ ks) f = omega (arith, f k (here refl), enough_places ks (λ x i. f x (there i)))

  -- from 0 on, where there is an address at all
  pub pages_list : 0 < limit → (ks : List ℕ) → Pages G page L ks
  unfolding pages_from start_after
  pages_list l [] = record { places = λ e. let z : ◌≡◌ {A = ℕ} 0 1 = cc in absurd (omega arith); entries = λ e. let z : ◌≡◌ {A = ℕ} 0 1 = cc in absurd (omega arith); ends = λ f n. absurd (omega arith) }
  pages_list l (k ∷ ks) = record {
    places = λ e. w.places ∙ ap (map (place_of G)) (whole e);
    entries = λ e. w.entries ∙ ap (map (entry_of G)) (whole e);
    ends = λ f n s. w.after ∙ ap first_base (drop_of_length-le L {i = places_of (k ∷ ks)} (omega (arith, s, enough_places (k ∷ ks) f)));
  }
    where
      w : Written (k ∷ ks) (some 0) L
      w = subst (Written (k ∷ ks) (some 0)) (from_low 0 0 L (omega arith) c) (pages_written 0 k ks l)

      all_of : (n : ℕ) (R : List Mapping) → first_base (drop n R) ≡ none → take n R ≡ R
      all_of zero [] e = refl
      all_of zero (m ∷ R) e = cc
      all_of (suc n) [] e = refl
      all_of (suc n) (m ∷ R) e = ap (λ (r : List Mapping). m ∷ r) (all_of n R e)

      whole : start_after page (k ∷ ks) (some 0) ≡ none → take (places_of (k ∷ ks)) L ≡ L
      whole e = all_of (places_of (k ∷ ks)) L (sym w.after ∙ e)

-- ---- the mappings of a pool with good numbers

module _ {G : Granule} (S : Sane G) (p : Pool) (g : good_pool G p ≡ true) where
  -- their bases rise, below the space
  pub pool_climbs : Climbing 0 (mappings_of G p)
  pool_climbs =
      rising_climbing 0 (space_of G p.numbers.levels) (mappings_of G p) (pool_rises S p g)
      (λ m i. let W = pool_well S p g m i in omega (arith, W.sized, size_pos G W.height))

  pub pool_below : Each (λ m. m.at < space_of G p.numbers.levels) (mappings_of G p)
  pool_below m i = let W = pool_well S p g m i in omega (arith, pool_within S p g m i, W.sized, size_pos G W.height)

  pub space_there : 0 < space_of G p.numbers.levels
  space_there =
      let N = (good_setup_lem g).numbers in
      omega (arith, space_some G N.enough N.not_more, size_pos G p.numbers.levels)

  module _ (sound : sound_tree (of_pool G p) ≡ true) where
    -- a call from below the space, with runs of one length, lists them
    pub list_lists : (a k : ℕ) → a < space_of G p.numbers.levels → list_w G p a k k ≡ listed_of G k (from_on a (mappings_of G p))
    unfolding list_w
    list_lists a k l = rw (g, eq-eqb k k refl, lt-leb (space_of G p.numbers.levels) a l, sound)

    -- so pages of any lengths list each of them once
    pub pool_pages : (ks : List ℕ) → Pages G (λ a k. list_w G p a k k) (mappings_of G p) ks
    pool_pages = pages_list G (mappings_of G p) pool_climbs (space_of G p.numbers.levels) pool_below (λ a k. list_w G p a k k) list_lists space_there
