-- Laws of the granule's number.
use Rattle.std.specs.Prelude.{ℕ, ◌≡◌, refl, ◌≢◌, Bool, true, false, cond, List}
use Rattle.std.proofs.Common.{sym, ◌∙◌, true≢false, ne_eqb}
use Rattle.std.proofs.Math.Path.{ap}
use Rattle.path.specs.Geometry.{four, sixteen, good_granule, granule_of, page_size}
use Rattle.path.specs.Areas.{Area}
use Rattle.path.specs.Numbers.{no_setup}
use Rattle.model.specs.Answers.{formatted, refused, pool, Done, refuse}
use Rattle.model.specs.Calls.{format_w, format_n}
use Rattle.model.proofs.DescentLaws.{clash}

module _ (number : ℕ) where
  -- a number names 4 KiB, or 16 KiB, or no granule
  pub is_four : number ≡ 4096 → granule_of number ≡ four
  unfolding granule_of
  is_four z = rw z

  pub is_sixteen : number ≡ 16384 → granule_of number ≡ sixteen
  unfolding granule_of
  is_sixteen z = rw z

  pub no_granule : good_granule number ≡ false → (number ≢ 4096) × (number ≢ 16384)
  no_granule e = (λ z. true≢false (sym (ap good_granule z) ∙ e), λ z. true≢false (sym (ap good_granule z) ∙ e))

  pub some_granule : good_granule number ≡ true → (number ≢ 4096) × (number ≢ 16384) → ⊥
  some_granule e (x, y) = true≢false (sym e ∙ simp (ne_eqb number 4096 x, ne_eqb number 16384 y))

  -- it is the size of its granule's pages exactly where it names one
  pub not_named : (number ≢ 4096) × (number ≢ 16384) → number ≢ page_size (granule_of number)
  unfolding granule_of
  not_named (x, y) z = x (z ∙ ap (λ (b : Bool). page_size (cond b sixteen four)) (ne_eqb number 16384 y))

  pub named : number ≡ page_size (granule_of number) → good_granule number ≡ true
  named z = go (good_granule number) refl
    where
      go : (b : Bool) → good_granule number ≡ b → b ≡ true
      go true e = refl
      go false e = absurd (not_named (no_granule e) z)

  -- format with that number is format with the granule, or refused
  module _ (levels : ℕ) (area : Area) (ws : List ℕ) (cut : ℕ) (list : List ℕ) where
    pub format_named : good_granule number ≡ true → format_n number levels area ws cut list ≡ format_w (granule_of number) levels area ws cut list
    unfolding format_n
    format_named e = rw e

    pub format_unnamed : good_granule number ≡ false → format_n number levels area ws cut list ≡ refuse 1 (pool no_setup ws cut list)
    unfolding format_n
    format_unnamed e = rw e

    -- so one that is accepted is the granule's
    pub format_accepted : (format_n number levels area ws cut list).answer ≡ formatted → format_n number levels area ws cut list ≡ format_w (granule_of number) levels area ws cut list
    format_accepted q = go (good_granule number) refl
      where
        go : (b : Bool) → good_granule number ≡ b → format_n number levels area ws cut list ≡ format_w (granule_of number) levels area ws cut list
        go true e = format_named e
        go false e = let z : refused 1 ≡ formatted = sym (ap (λ (d : Done). d.answer) (format_unnamed e)) ∙ q in clash (cc)
