-- A good pool stays good: make any sequence of calls, with any arguments, on any pool that keeps the rules of refusal 1, be it sound or damaged.
use Rattle.std.specs.Prelude.{◌≡◌, true, false, List, [], ◌∷◌, ℕ, ◌-◌, length, replicate}
use Rattle.std.proofs.Math.Path.{refl}
use Rattle.std.proofs.Common.{subst}
use Rattle.std.proofs.Math.Bool.{Bool, cond}
use Rattle.laws.specs.Lists.{down}
use Rattle.path.specs.Geometry.{Granule}
use Rattle.path.specs.Areas.{Area, total}
use Rattle.path.specs.Numbers.{no_setup, setup_of, good_numbers}
use Rattle.path.specs.Laws.{setup_good}
use Rattle.model.specs.Answers.{formatted, Pool, pool, Done, done, refuse}
use Rattle.model.specs.Calls.{good_pool, format_w}
use Rattle.model.proofs.AuditLaws.{format_audit, audit_counts}
use Rattle.model.specs.Adds.{lent, add_w}
use Rattle.model.proofs.AddLaws.{add_view, may_add, grown_good}
use Rattle.model.specs.AddLaws.{AddView, add_grows, add_refuses}
use Rattle.model.proofs.LeftLaws.{map_leaves, unmap_leaves, leaves_good}
use Rattle.model.proofs.RangeLeft.{map_range_leaves, unmap_range_leaves}
use Rattle.model.specs.Refusals.{Breaks}
use Rattle.model.proofs.RefusalLaws.{good_keeps, unbroken_good}
use Rattle.demand.specs.Demand3.{Call, format_c, add_c, map_c, unmap_c, map_range_c, unmap_range_c, ask_c, go_on, go_back, step_w, pool_after}

module _ (G : Granule) where
  -- an accepted format leaves a good pool, a refused one the pool from before
  format_good : (p : Pool) (levels : ℕ) (area : Area) → good_pool G p ≡ true → good_pool G (step_w G p (format_c levels area)).after ≡ true
  unfolding format_w
  format_good p levels area g = go (good_numbers G levels area p.cut (length p.words) (length p.list)) refl
    where
      left : Bool → Done
      left y = cond y (done formatted (pool (setup_of G levels area (total area - 1)) (replicate (length p.words) 0) p.cut (down (total area)))) (refuse 1 (pool no_setup p.words p.cut p.list))

      fresh : good_numbers G levels area p.cut (length p.words) (length p.list) ≡ true → good_pool G (left (good_numbers G levels area p.cut (length p.words) (length p.list))).after ≡ true
      fresh e = (audit_counts G _ 1 0 (format_audit G levels area p.words p.cut p.list (rw e))).0

      go : (y : Bool) → good_numbers G levels area p.cut (length p.words) (length p.list) ≡ y → good_pool G (go_on p (left y) (left y).answer).after ≡ true
      go true e = subst (λ (y : Bool). good_pool G (left y).after ≡ true) e (fresh e)
      go false e = g

  -- an accepted add leaves a good pool, a refused one the pool from before
  add_good_step : (p : Pool) (q m : ℕ) (second rest : List ℕ) → good_pool G p ≡ true → good_pool G (step_w G p (add_c q m second rest)).after ≡ true
  add_good_step p q m second rest g = go (add_w G (lent p second rest) q m) (add_view G (lent p second rest) q m)
    where
      go : (d : Done) → AddView G (lent p second rest) q m d → good_pool G (go_back p d d.answer).after ≡ true
      go d (add_grows a b c) = let (x, r) = may_add G (lent p second rest) q m a in setup_good (grown_good G (lent p second rest) q m x r)
      go d (add_refuses k) = g

  pub stays_good : (p : Pool) (c : Call) → good_pool G p ≡ true → good_pool G (step_w G p c).after ≡ true
  stays_good p (format_c l r) g = format_good p l r g
  stays_good p (add_c q m second rest) g = add_good_step p q m second rest g
  stays_good p (map_c a b s k) g = leaves_good (map_leaves G p a b s k) g
  stays_good p (unmap_c a) g = leaves_good (unmap_leaves G p a) g
  stays_good p (map_range_c a b l k) g = leaves_good (map_range_leaves G p a b l k) g
  stays_good p (unmap_range_c a l) g = leaves_good (unmap_range_leaves G p a l) g
  stays_good p (ask_c q) g = g

  pub stays_good_all : (p : Pool) (cs : List Call) → good_pool G p ≡ true → good_pool G (pool_after G p cs) ≡ true
  stays_good_all p [] g = g
  stays_good_all p (c ∷ cs) g = stays_good_all (step_w G p c).after cs (stays_good p c g)

  -- in the words of the table of refusals: what breaks no rule breaks none after any calls
  pub never_breaks : (p : Pool) (cs : List Call) → (¬ Breaks G p) → ¬ Breaks G (pool_after G p cs)
  never_breaks p cs n = good_keeps G (pool_after G p cs) (stays_good_all p cs (unbroken_good G p n))
