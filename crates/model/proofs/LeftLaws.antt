-- Laws of what a call leaves, of any pool whatever: everything as it was, or the pool after single writes, which keep the setup numbers but the free
-- count, and the lengths of the lent memory.
use Rattle.std.specs.Prelude.{ℕ, ◌+◌, ◌-◌, ◌%◌, ◌<◌, ◌≡◌, Bool, true, false, cond, ltb, eqb, length}
use Rattle.std.proofs.Math.Path.{refl}
use Rattle.std.proofs.Common.{◌∙◌, subst, arith, length-set}
use mathlib.Core.List.{List, [], ◌∷◌, ◌++◌}
use borrow.Author.Tests.{ltb-false}
use Rattle.laws.specs.ListLaws.{length_zeroed}
use Rattle.path.specs.Geometry.{Granule, entries, size_at, height_of}
use Rattle.path.specs.Areas.{area_of, total}
use Rattle.path.specs.Numbers.{with_free, GoodSetup}
use Rattle.path.specs.Laws.{good_setup_lem, setup_good}
use Rattle.path.specs.Paths.{path_of}
use Rattle.entry.specs.declared.Entry.{Entry}
use Rattle.entry.specs.declared.Entry.TheVariants.{Empty, Table, Frame, Damaged}
use Rattle.model.specs.declared.Walked.{Walked}
use Rattle.model.specs.Answers.{Pool, pool, Done, refuse}
use Rattle.model.specs.Walk.{slot}
use Rattle.model.specs.Writes.{Write, store, wipe, give, Memory, memory, perform, perform_all, may_take, freed}
use Rattle.model.specs.Calls.{good_pool, walk_to, map_tests, map_here, map_at, map_w, unmap_tests, unmap_here, unmap_at, unmap_w}
use Rattle.model.specs.LeftLaws.{Kept, Leaves, after_writes, as_it_was}

-- ---- writes keep lengths

module _ (G : Granule) where
  pub perform_length : (w : Write) (m : Memory) → length (perform G w m).words ≡ length m.words
  perform_length (store i x) m = length-set m.words i x
  perform_length (wipe t) m = length_zeroed m.words (slot G t 0) (entries G)
  perform_length (give i t) m = refl

  pub performed_length : (ws : List Write) (m : Memory) → length (perform_all G ws m).words ≡ length m.words
  unfolding perform_all
  performed_length [] m = refl
  performed_length (w ∷ ws) m = performed_length ws (perform G w m) ∙ perform_length w m

  perform_places : (w : Write) (m : Memory) → length (perform G w m).list ≡ length m.list
  perform_places (store i x) m = refl
  perform_places (wipe t) m = refl
  perform_places (give i t) m = length-set m.list i t

  pub performed_places : (ws : List Write) (m : Memory) → length (perform_all G ws m).list ≡ length m.list
  unfolding perform_all
  performed_places [] m = refl
  performed_places (w ∷ ws) m = performed_places ws (perform G w m) ∙ perform_places w m

  -- writes one after the other
  pub perform_append : (xs ys : List Write) (m : Memory) → perform_all G (xs ++ ys) m ≡ perform_all G ys (perform_all G xs m)
  unfolding perform_all
  perform_append [] ys m = refl
  perform_append (x ∷ xs) ys m = perform_append xs ys (perform G x m)

-- and what a call then leaves of that
pub leaves_on : {G : Granule} {p q r : Pool} → Leaves G p q → Leaves G q r → Leaves G p r
leaves_on as_it_was M = M
leaves_on (after_writes ws f room) as_it_was = after_writes ws f room
leaves_on {G} {p} (after_writes ws f room) (after_writes ys g more) =
    subst (λ (m : Memory). Leaves G p (pool (with_free p.numbers g) m.words p.cut m.list)) (perform_append G ws ys (memory p.words p.list))
    (after_writes (ws ++ ys) g (λ l. more (room l)))

module _ (G : Granule) (p : Pool) where
  -- a test chooses between two
  chosen : (b : Bool) (x y : Done) → Leaves G p x.after → (b ≡ false → Leaves G p y.after) → Leaves G p (cond b x y).after
  chosen true x y l m = l
  chosen false x y l m = m refl

  module _ (a b size k : ℕ) where
    map_here_lem : (g : ℕ) (o : Walked) (need : ℕ) → Leaves G p (map_here G p a b g k o need).after
    unfolding map_here
    map_here_lem g o need =
        chosen (ltb p.numbers.free need) (refuse 7 p) _ as_it_was (λ _.
        chosen (may_take p.list (total (area_of p.numbers)) o.tables p.numbers.free need) _ (refuse 8 p) (after_writes _ _ (λ l. omega arith)) (λ _. as_it_was))

    map_at_lem : (g : ℕ) (o : Walked) (e : Entry) → Leaves G p (map_at G p a b g k o e).after
    unfolding map_at
    map_at_lem g o Empty = map_here_lem g o (o.left - g)
    map_at_lem g o (Frame c d) = as_it_was
    map_at_lem g o (Table c) = as_it_was
    map_at_lem g o Damaged = as_it_was

    pub map_leaves : Leaves G p (map_w G p a b size k).after
    unfolding map_w
    map_leaves =
        let o = walk_to G p (height_of G size) a in
        let no = map_tests G p.numbers.levels (area_of p.numbers) a b size k in
        chosen (good_pool G p) _ (refuse 1 p)
        (chosen (eqb no 0) (map_at G p a b (height_of G size) k o o.entry) (refuse no p) (map_at_lem (height_of G size) o o.entry) (λ _. as_it_was))
        (λ _. as_it_was)

  module _ (a : ℕ) where
    unmap_here_lem : (b k : ℕ) (o : Walked) (given : ℕ) → Leaves G p (unmap_here G p a b k o given).after
    unfolding unmap_here
    unmap_here_lem b k o given =
        chosen (ltb (total (area_of p.numbers) - 1) (p.numbers.free + given)) (refuse 8 p) _ as_it_was
        (λ e. after_writes _ _ (λ l. omega (arith, ltb-false (total (area_of p.numbers) - 1) (p.numbers.free + given) e)))

    unmap_at_lem : (o : Walked) (e : Entry) → Leaves G p (unmap_at G p a o e).after
    unfolding unmap_at
    unmap_at_lem o Empty = as_it_was
    unmap_at_lem o (Table c) = as_it_was
    unmap_at_lem o Damaged = as_it_was
    unmap_at_lem o (Frame b k) =
        let n = freed G p.words o.tables (path_of G a) o.left (p.numbers.levels - 1 - o.left) in
        chosen (eqb (a % size_at G o.left) 0) (unmap_here G p a b k o n) (refuse 10 p) (unmap_here_lem b k o n) (λ _. as_it_was)

    pub unmap_leaves : Leaves G p (unmap_w G p a).after
    unfolding unmap_w
    unmap_leaves =
        let o = walk_to G p 0 a in
        let no = unmap_tests G p.numbers.levels a in
        chosen (good_pool G p) _ (refuse 1 p)
        (chosen (eqb no 0) (unmap_at G p a o o.entry) (refuse no p) (unmap_at_lem o o.entry) (λ _. as_it_was))
        (λ _. as_it_was)

pub leaves_kept : {G : Granule} {p q : Pool} → Leaves G p q → Kept p q
leaves_kept as_it_was = record { granule = refl; levels = refl; area = refl; cut = refl; words = refl; places = refl }
leaves_kept {G} {p} (after_writes ws f room) = record {
  granule = refl;
  levels = refl;
  area = refl;
  cut = refl;
  words = performed_length G ws (memory p.words p.list);
  places = performed_places G ws (memory p.words p.list);
}

-- a free count below the table count stays so
pub leaves_room : {G : Granule} {p q : Pool} → Leaves G p q → p.numbers.free < total (area_of p.numbers) → q.numbers.free < total (area_of q.numbers)
leaves_room as_it_was l = l
leaves_room (after_writes ws f room) l = room l

-- so a pool whose numbers and lengths are good is left so
pub leaves_good : {G : Granule} {p q : Pool} → Leaves G p q → good_pool G p ≡ true → good_pool G q ≡ true
leaves_good {G} {p} {q} L e = setup_good (record {
  granule_is = K.granule ∙ S.granule_is;
  numbers = rw (K.levels, K.area, K.cut, K.words, K.places) S.numbers;
  room = leaves_room L S.room;
})
  where
    K : Kept p q
    K = leaves_kept L

    S : GoodSetup G p.numbers p.cut (length p.words) (length p.list)
    S = good_setup_lem e
