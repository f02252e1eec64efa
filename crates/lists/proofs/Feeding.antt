-- Mappings that are written one after the other: parts of a list, one word, and what the whole comes to.
use Rattle.std.proofs.Common.{◌≡◌, ℕ, suc, ◌+◌, ◌*◌, ◌≤◌, ◌<◌, Bool, true, false, cond, List, [], ◌∷◌, ◌++◌, map, Option, Some, None, Result, Ok, Err, ltb, length, set, take, drop, refl, sym, ap, ◌∙◌, arith}
use lib.ListN.{length-append, length-map, length-drop}
use lib.Seq.{set_at, take_at, append_snoc, length-take-le}
use borrow.Author.Tests.{lt-ltb, le-ltb, le-leb, lt-leb}
use Rattle.path.specs.Geometry.{Granule, Sane, size_at}
use Rattle.path.specs.Laws.{size_height}
use Rattle.entry.specs.Words.{frame_word, Framed}
use Rattle.entry.proofs.Parts.{frame_word_ge}
use Rattle.model.specs.declared.Excerpt.{Excerpt}
use Rattle.model.specs.Answers.{Mapping, mapping, listed, list_did}
use Rattle.model.specs.Listing.{place_of, entry_of, from_on, listing, listed_of, over, leaves}
use Rattle.model.proofs.ListingLaws.{listing_places, listing_entries}
use Rattle.lists.specs.Feeds.{Fed, fed, feed, OneOf, none_there, frame_there}

-- ---- parts of a list

module _ (G : Granule) where
  -- the rest is written from where a part ended, or not at all
  abbrev then : Fed → (List ℕ → List ℕ → ℕ → Fed) → Fed
  then F f = elim F.end [ Ok n ↦ f F.places F.entries n | Err base ↦ F ]

  feed_then : (a b : List Mapping) (P E : List ℕ) (n : ℕ) → then (feed G a P E n) (feed G b) ≡ feed G (a ++ b) P E n
  unfolding feed
  feed_then [] b P E n = refl
  feed_then (m ∷ a) b P E n = go (ltb n (length P)) (feed_then a b (set P n (place_of G m)) (set E n (entry_of G m)) (suc n))
    where
      F : Fed
      F = feed G a (set P n (place_of G m)) (set E n (entry_of G m)) (suc n)

      H : Fed
      H = feed G (a ++ b) (set P n (place_of G m)) (set E n (entry_of G m)) (suc n)

      go : (x : Bool) → then F (feed G b) ≡ H → then (cond x F (fed (Err m.at) P E)) (feed G b) ≡ cond x H (fed (Err m.at) P E)
      go true e = e
      go false e = refl

  -- after a part that left none out the rest is written from there on
  pub fed_on : (a b : List Mapping) (P E P' E' : List ℕ) (n m : ℕ) → fed (Ok m) P' E' ≡ feed G a P E n → feed G (a ++ b) P E n ≡ feed G b P' E' m
  fed_on a b P E P' E' n m e = sym (feed_then a b P E n) ∙ ap (λ (F : Fed). then F (feed G b)) (sym e)

  -- and one that did ends the whole
  pub fed_stop : (a b : List Mapping) (P E P' E' : List ℕ) (n base : ℕ) → fed (Err base) P' E' ≡ feed G a P E n → fed (Err base) P' E' ≡ feed G (a ++ b) P E n
  fed_stop a b P E P' E' n base e = ap (λ (F : Fed). then F (feed G b)) e ∙ feed_then a b P E n

  -- nothing to write
  pub fed_none : (P E : List ℕ) (n : ℕ) → fed (Ok n) P E ≡ feed G [] P E n
  unfolding feed
  fed_none P E n = refl

-- ---- one word

module _ {G : Granule} (S : Sane G) (h v w start : ℕ) (P E : List ℕ) (n : ℕ) where
  -- the two numbers of a frame's mapping
  place_is : {b k : ℕ} → Framed G h b k → place_of G (mapping v b (size_at G h) k) ≡ v + (G.page + G.index * h)
  place_is F = ap (λ (j : ℕ). v + (G.page + G.index * j)) (size_height G S F.level)

  entry_is : {b k : ℕ} → Framed G h b k → entry_of G (mapping v b (size_at G h) k) ≡ frame_word b h k
  entry_is {b} {k} F = ap (λ (j : ℕ). frame_word b j k) (size_height G S F.level)

  -- an empty word
  pub word_empty : w ≡ 0 → (L : List Mapping) → OneOf G h v w L → fed (Ok n) P E ≡ feed G (from_on start L) P E n
  unfolding feed from_on
  word_empty z L (none_there e) = refl
  word_empty z L (frame_there b k F e) = absurd (omega (arith, z, e, frame_word_ge b h k))

  -- a mapping below the start
  pub word_before : v < start → (L : List Mapping) → OneOf G h v w L → fed (Ok n) P E ≡ feed G (from_on start L) P E n
  unfolding feed from_on
  word_before l L (none_there e) = refl
  word_before l L (frame_there b k F e) = rw (lt-leb start v l)

  -- no place is left for it
  pub word_full : (w ≡ 0 → ⊥) → start ≤ v → length P ≤ n → (L : List Mapping) → OneOf G h v w L → fed (Err v) P E ≡ feed G (from_on start L) P E n
  unfolding feed from_on
  word_full z l m L (none_there e) = absurd (z e)
  word_full z l m L (frame_there b k F e) = rw (le-leb start v l, le-ltb n (length P) m)

  -- or there is one, whose size has this power of two
  pub word_written : {power : ℕ} → power ≡ G.page + G.index * h → (w ≡ 0 → ⊥) → start ≤ v → n < length P → (L : List Mapping) → OneOf G h v w L
      → fed (Ok (n + 1)) (set P n (v + power)) (set E n w) ≡ feed G (from_on start L) P E n
  unfolding feed from_on
  word_written f z l m L (none_there e) = absurd (z e)
  word_written f z l m L (frame_there b k F e) = rw (le-leb start v l, lt-ltb n (length P) m)
      (let z : n + 1 ≡ suc n = omega arith in let q = e ∙ sym (entry_is F) in let p = ap (λ (x : ℕ). v + x) f ∙ sym (place_is F) in λ i. fed (Ok (z i)) (set P n (p i)) (set E n (q i)))

-- ---- the whole

-- how a list ends of which the first mappings are written, these many, and the others are left out
abbrev ended : ℕ → List Mapping → Result ℕ ℕ
ended n [] = Ok n
ended n (m ∷ R) = Err m.at

abbrev first_left : List Mapping → Option ℕ
first_left [] = None
first_left (m ∷ R) = Some m.at

-- where some are left out, as many are written as there are places
all_written : (k : ℕ) (M : List Mapping) {m : Mapping} {R : List Mapping} → drop k M ≡ m ∷ R → length (take k M) ≡ k
all_written k M e = length-take-le k M (omega (arith, length-drop k M, ap length e))

module _ (G : Granule) where
  -- into runs of which the first n places are written
  abbrev Wrote : List Mapping → List ℕ → List ℕ → List ℕ → List ℕ → ℕ → Fed
  Wrote L A B C D n =
      fed (ended (n + length (take (length B) L)) (drop (length B) L)) (A ++ over (map (place_of G) (take (length B) L)) B) (C ++ over (map (entry_of G) (take (length B) L)) D)

  feed_wrote : (L : List Mapping) (A B C D : List ℕ) (n : ℕ) → length A ≡ n → length C ≡ n → length B ≡ length D → feed G L (A ++ B) (C ++ D) n ≡ Wrote L A B C D n
  unfolding feed
  feed_wrote [] A [] C [] n a c d = let z : n ≡ n + 0 = omega arith in λ i. fed (Ok (z i)) (A ++ []) (C ++ [])
  feed_wrote [] A [] C (y ∷ D) n a c d = absurd (omega arith)
  feed_wrote [] A (x ∷ B) C [] n a c d = absurd (omega arith)
  feed_wrote [] A (x ∷ B) C (y ∷ D) n a c d = let z : n ≡ n + 0 = omega arith in λ i. fed (Ok (z i)) (A ++ x ∷ B) (C ++ y ∷ D)
  feed_wrote (m ∷ L) A [] C [] n a c d = rw (le-ltb n (length (A ++ [])) (omega (arith, length-append A [], a)))
  feed_wrote (m ∷ L) A [] C (y ∷ D) n a c d = absurd (omega arith)
  feed_wrote (m ∷ L) A (x ∷ B) C [] n a c d = absurd (omega arith)
  feed_wrote (m ∷ L) A (x ∷ B) C (y ∷ D) n a c d =
      rw (lt-ltb n (length (A ++ x ∷ B)) (omega (arith, length-append A (x ∷ B), a)))
      ((λ i. feed G L (first i) (second i) (suc n))
      ∙ feed_wrote L (A ++ (p ∷ [])) B (C ++ (q ∷ [])) D (suc n) (omega (arith, length-append A (p ∷ []), a)) (omega (arith, length-append C (q ∷ []), c)) (omega arith)
      ∙ (λ i. fed (ended (count i) (drop (length B) L)) (again i) (again₂ i)))
    where
      p : ℕ
      p = place_of G m

      q : ℕ
      q = entry_of G m

      first : set (A ++ x ∷ B) n p ≡ (A ++ (p ∷ [])) ++ B
      first = set_at A x B p n a ∙ sym (append_snoc A p B)

      second : set (C ++ y ∷ D) n q ≡ (C ++ (q ∷ [])) ++ D
      second = set_at C y D q n c ∙ sym (append_snoc C q D)

      W : List Mapping
      W = take (length B) L

      again : (A ++ (p ∷ [])) ++ over (map (place_of G) W) B ≡ A ++ (p ∷ over (map (place_of G) W) B)
      again = append_snoc A p (over (map (place_of G) W) B)

      again₂ : (C ++ (q ∷ [])) ++ over (map (entry_of G) W) D ≡ C ++ (q ∷ over (map (entry_of G) W) D)
      again₂ = append_snoc C q (over (map (entry_of G) W) D)

      count : suc n + length W ≡ n + suc (length W)
      count = omega arith

  module _ (W : List Mapping) (P E : List ℕ) where
    abbrev P₁ : List ℕ
    P₁ = over (map (place_of G) W) P

    abbrev E₁ : List ℕ
    E₁ = over (map (entry_of G) W) E

    front : take (length W) P₁ ≡ map (place_of G) W
    front = take_at (map (place_of G) W) (drop (length (map (place_of G) W)) P) (length W) (length-map W (place_of G))

    front₂ : take (length W) E₁ ≡ map (entry_of G) W
    front₂ = take_at (map (entry_of G) W) (drop (length (map (entry_of G) W)) E) (length W) (length-map W (entry_of G))

    told : (R : List Mapping) → list_did (Ok (record { written = length W; next = first_left R })) P₁ E₁ ≡ leaves (listing G W R) P E
    told [] =
        let u = sym (listing_places G W []) in let v = sym (listing_entries G W []) in
        λ i. record { answer = listed (length W) 0 0 (front i) (front₂ i); places = over (u i) P; entries = over (v i) E }
    told (m ∷ R) =
        let u = sym (listing_places G W (m ∷ R)) in let v = sym (listing_entries G W (m ∷ R)) in
        λ i. record { answer = listed (length W) 1 m.at (front i) (front₂ i); places = over (u i) P; entries = over (v i) E }

  -- the answer of a call that wrote them from the first place on
  module _ (M : List Mapping) (P E P' E' : List ℕ) (same : length P ≡ length E) where
    abbrev Q : List Mapping
    Q = take (length P) M

    abbrev R : List Mapping
    R = drop (length P) M

    wrote : (r : Result ℕ ℕ) → fed r P' E' ≡ feed G M P E 0 → fed r P' E' ≡ fed (ended (length Q) R) (over (map (place_of G) Q) P) (over (map (entry_of G) Q) E)
    wrote r e =
        e ∙ feed_wrote M [] P [] E 0 refl refl same
        ∙ (let z : 0 + length Q ≡ length Q = omega arith in λ i. fed (ended (z i) R) (over (map (place_of G) Q) P) (over (map (entry_of G) Q) E))

    -- what was written and left out is what the call says of it
    say : (r : Result ℕ ℕ) → fed r P' E' ≡ feed G M P E 0 → (x : Excerpt) → x ≡ record { written = length Q; next = first_left R } → list_did (Ok x) P' E' ≡ leaves (listed_of G (length P) M) P E
    unfolding listed_of
    say r e x d = (λ i. list_did (Ok (d i)) (wrote r e i).places (wrote r e i).entries) ∙ told Q P E R

    pub list_all : (n : ℕ) → fed (Ok n) P' E' ≡ feed G M P E 0 → list_did (Ok (record { written = n; next = None })) P' E' ≡ leaves (listed_of G (length P) M) P E
    list_all n e = say (Ok n) e (record { written = n; next = None }) (go R (ap (λ (F : Fed). F.end) (wrote (Ok n) e)))
      where
        go : (R : List Mapping) → ◌≡◌ {A = Result ℕ ℕ} (Ok n) (ended (length Q) R) → ◌≡◌ {A = Excerpt} (record { written = n; next = None }) (record { written = length Q; next = first_left R })
        go [] e = let z : n ≡ length Q = cc in ap (λ (k : ℕ). record { written = k; next = None }) z
        go (m ∷ R) e = absurd (let z : ◌≡◌ {A = ℕ} 0 1 = cc in omega arith)

    pub list_some : (base n : ℕ) → n ≡ length P → fed (Err base) P' E' ≡ feed G M P E 0 → list_did (Ok (record { written = n; next = Some base })) P' E' ≡ leaves (listed_of G (length P) M) P E
    list_some base n all e = say (Err base) e (record { written = n; next = Some base }) (go R refl (ap (λ (F : Fed). F.end) (wrote (Err base) e)))
      where
        go : (K : List Mapping) → R ≡ K → ◌≡◌ {A = Result ℕ ℕ} (Err base) (ended (length Q) K) → ◌≡◌ {A = Excerpt} (record { written = n; next = Some base }) (record { written = length Q; next = first_left K })
        go [] q e = absurd (let z : ◌≡◌ {A = ℕ} 0 1 = cc in omega arith)
        go (m ∷ K) q e =
            let z : base ≡ m.at = cc in
            let k : n ≡ length Q = all ∙ sym (all_written (length P) M q) in
            λ i. record { written = k i; next = Some (z i) }
