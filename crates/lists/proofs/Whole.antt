-- The public call: its refusals, and what it asks of the tree.
use Prim.Native.Nat.{ℕ, suc, ◌+◌, ◌-◌, ◌≤◌, ◌<◌}
use mathlib.Core.Path.{◌≡◌, sym, ap, ◌∙◌}
use mathlib.Core.Bool.{Bool, true, false, ◌&&◌}
use mathlib.Core.List.{List, ◌++◌}
use native.Mathlib.Nat.{zero-mod}
use native.Mathlib.Omega.{arith}
use lib.Dec.{leb}
use lib.ListN.{length, length-append}
use borrow.Author.Tests.{eq-eqb, ne_eqb, le-leb, lt-leb}
use Rattle.path.specs.Geometry.{Granule, Sane, size_at, good_levels, space_of}
use Rattle.path.specs.Areas.{area_of}
use Rattle.path.specs.Numbers.{good_setup, GoodNumbers}
use Rattle.path.specs.Laws.{good_setup_lem, space_some, size_fits, in_space, past_space}
use Rattle.path.specs.declared.Setup.{Setup}
use Rattle.std.proofs.Common.{Some, None, Ok, Err}
use Rattle.model.specs.declared.Refusal.TheVariants as R
use Rattle.model.specs.Answers.{Mapping, Pool, pool, list_did}
use Rattle.model.specs.Calls.{good_pool}
use Rattle.model.specs.Audit.{of_pool}
use Rattle.model.specs.Adds.{sound_tree}
use Rattle.model.proofs.AddLaws.{tree_wf}
use Rattle.model.specs.Listing.{from_on, listed_of, list_w, leaves}
use Rattle.lists.specs.Feeds.{TableFit, RunsFit, fed, feed}
use Rattle.lists.proofs.Feeding.{list_all, list_some}

module _ {G : Granule} (S : Sane G) (s : Setup) (ws us list : List ℕ) (start : ℕ) (P E : List ℕ) {r : Bool}
    (e : r ≡ good_setup G s (length ws) (length ws + length us) (length list)) where
  abbrev p : Pool
  p = pool s (ws ++ us) (length ws) list

  good_is : r ≡ good_pool G p
  good_is = e ∙ ap (λ (n : ℕ). good_setup G s (length ws) n (length list)) (sym (length-append ws us))

  -- 1: bad setup numbers or lengths
  pub list_bad : r ≡ false → list_did (Err R.Setup) P E ≡ leaves (list_w G p start (length P) (length E)) P E
  unfolding list_w
  list_bad n = rw (sym good_is ∙ n)

  module _ (n : r ≡ true) where
    good : good_pool G p ≡ true
    good = sym good_is ∙ n

    abbrev N : GoodNumbers G s.levels (area_of s) (length ws) (length (ws ++ us)) (length list)
    N = (good_setup_lem good).numbers

    pub few_tables : s.tables + s.tables2 ≤ 512
    few_tables = N.few

    pub some_level : 1 ≤ s.levels
    some_level = omega (arith, N.enough, S.large_below)

    -- runs of unequal length
    pub list_uneven : (length P ≡ length E → ⊥) → list_did (Err R.Setup) P E ≡ leaves (list_w G p start (length P) (length E)) P E
    unfolding list_w
    list_uneven f = rw (good, ne_eqb (length P) (length E) f)

    module _ (even : length P ≡ length E) {x : Bool} (d : x ≡ (good_levels G s.levels && leb (start + 1) (space_of G s.levels))) where
      -- 4
      pub list_outside : x ≡ false → list_did (Err R.Address) P E ≡ leaves (list_w G p start (length P) (length E)) P E
      unfolding list_w
      list_outside k =
          rw (good, eq-eqb (length P) (length E) even, le-leb (space_of G s.levels) start (omega (arith, past_space G s.levels start 1 (sym d ∙ k) (omega arith))))

      module _ (k : x ≡ true) where
        pub inside : start < space_of G s.levels
        inside = omega (arith, in_space G s.levels start 1 (sym d ∙ k))

        pub runs_fit : RunsFit G (area_of s) (length ws) (length us)
        runs_fit = record { cut_is = N.cut_is; long = omega (arith, N.words_are, length-append ws us) }

        module _ {y : Bool} (c : y ≡ (good_setup G s (length ws) (length ws + length us) (length list) && sound_tree (of_pool G p))) where
          tree_is : y ≡ sound_tree (of_pool G p)
          tree_is = c ∙ rw (sym e ∙ n)

          -- 8
          pub list_unsound : y ≡ false → list_did (Err R.Damage) P E ≡ leaves (list_w G p start (length P) (length E)) P E
          unfolding list_w
          list_unsound j = rw (good, eq-eqb (length P) (length E) even, lt-leb (space_of G s.levels) start inside, sym tree_is ∙ j)

          module _ (j : y ≡ true) where
            sound : sound_tree (of_pool G p) ≡ true
            sound = sym tree_is ∙ j

            -- the root
            pub root_fit : TableFit G (ws ++ us) (area_of s) start 0 (s.levels - 1) 0
            root_fit = record {
              inside = omega (arith, N.some_table);
              region = record {
                level = omega (arith, top, N.not_more);
                aligned = zero-mod (size_at G (suc (s.levels - 1)));
                fits = omega (arith, ap (size_at G) top, size_fits G S N.not_more);
                not_before = omega (arith, ap (size_at G) top, inside, space_some G N.enough N.not_more);
              };
              sound = (tree_wf G p sound).tree;
            }
              where
                top : suc (s.levels - 1) ≡ s.levels
                top = omega (arith, N.enough, S.large_below)

            module _ (P' E' : List ℕ) where
              abbrev all : List Mapping
              all = from_on start (of_pool G p).mappings

              answer_is : list_w G p start (length P) (length E) ≡ listed_of G (length P) all
              unfolding list_w
              answer_is = rw (good, eq-eqb (length P) (length E) even, lt-leb (space_of G s.levels) start inside, sound)

              pub listed_all : (k : ℕ) → fed (Ok k) P' E' ≡ feed G all P E 0
                  → list_did (Ok (record { written = k; next = None })) P' E' ≡ leaves (list_w G p start (length P) (length E)) P E
              listed_all k f = list_all G all P E P' E' even k f ∙ ap (λ a. leaves a P E) (sym answer_is)

              pub listed_some : (base k : ℕ) → k ≡ length P → fed (Err base) P' E' ≡ feed G all P E 0
                  → list_did (Ok (record { written = k; next = Some base })) P' E' ≡ leaves (list_w G p start (length P) (length E)) P E
              listed_some base k l f = list_some G all P E P' E' even base k l f ∙ ap (λ a. leaves a P E) (sym answer_is)
