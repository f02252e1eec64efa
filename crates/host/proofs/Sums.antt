-- What the code adds up is the host's word.
use Prim.Native.Nat.{ℕ, ◌+◌, ◌%◌, ◌≤◌, ◌<◌}
use mathlib.Core.Path.{◌≡◌, refl, sym, ap, ◌∙◌}
use Rattle.std.specs.Prelude.{Option, Some, None, Ok, Err, ok_or}
use Rattle.std.specs.Prelude.{Result, IfOk}
use Rattle.std.proofs.Common.{subst}
use Rattle.entry.specs.declared.Entry.{Entry}
use Rattle.entry.specs.declared.Entry.TheVariants.{Frame}
use Rattle.entry.specs.Words.{frame_at}
use Rattle.entry.proofs.Laws.{frame_at_only}
use Rattle.model.specs.declared.Refusal.{Refusal}
use Rattle.host.specs.declared.Meaning.{Meaning}
use mathlib.Core.Bool.{cond}
use native.Mathlib.Omega.{arith}
use lib.Dec.{ltb}
use borrow.Author.Tests.{lt-ltb}
use Rattle.path.specs.Geometry.{Granule, Sane, size_at, at_level, physical, height_of, frame_height}
use Rattle.path.specs.Laws.{size_fits, height_size, height_some, height_none, level_some}
use Rattle.entry.specs.Words.{attr_word, type_at}
use Rattle.entry.specs.Host.{sized_by, host_word, Accepted}
use Rattle.entry.proofs.Made.{sum_word}
use Rattle.host.specs.HostLaws.{accepted_word}

-- the height that the code has for the granule of a size, or that it has none
pub of_size : {G : Granule} (size : ℕ) {o : Option ℕ} {h : ℕ}
    → G ≡ sized_by size
    → o ≡ frame_height G size
    → o ≡ Some h
    → (h ≡ height_of (sized_by size) size) × (h ≤ (sized_by size).large)
of_size size e f is = height_some (sized_by size) size _ (sym (rw e at f) ∙ is)

-- what the code makes of it: the height, or a refusal where there is none
pub height_in : (o : Option ℕ) (f : Refusal) {h : ℕ} → Ok h ≡ ok_or o f → o ≡ Some h
height_in None f e = cc
height_in (Some x) f {h} e = let same : x ≡ h = cc in ap Some same

pub refusal_in : (o : Option ℕ) (f : Refusal) {e : Refusal} → Err e ≡ ok_or o f → (o ≡ None) × (e ≡ f)
refusal_in None f e = (refl, cc)
refusal_in (Some x) f e = (cc, cc)

pub no_size : {G : Granule} (size : ℕ) {o : Option ℕ}
    → G ≡ sized_by size
    → o ≡ frame_height G size
    → o ≡ None
    → (sized_by size).large < height_of (sized_by size) size
no_size size e f is = height_none (sized_by size) size (sym (rw e at f) ∙ is)

module _ {G : Granule} (S : Sane G) (size : ℕ) {h : ℕ} (e : h ≡ height_of G size) (l : h ≤ G.large) where
  sized : size_at G h ≡ size
  sized = rw e (height_size G size (omega arith))

  -- adding the size of a frame to a base does not overflow
  pub frame_size : size ≤ physical
  frame_size = omega (arith, sized, size_fits G S {h = h} (omega arith))

  -- what a base is past a multiple of that size
  pub frame_rest_of : (b : ℕ) {r : ℕ} → r ≡ at_level G h (b % size_at G h) → r ≡ b % size
  frame_rest_of b q = q ∙ level_some G (omega arith) (b % size_at G h) ∙ ap (λ (s : ℕ). b % s) sized

-- the attribute word that the code has for attributes up to 15
pub attr_known : {a m : ℕ} → a ≤ 15 → m ≡ cond (ltb a 16) (attr_word a) 0 → m ≡ attr_word a
attr_known {a} l e = let few : a < 16 = omega arith in rw (lt-ltb a 16 few) at e

-- the host's word from its three parts
pub host_sum : {G : Granule} {b size a h k m : ℕ}
    → h ≡ height_of G size
    → Accepted G b size a
    → k ≡ type_at h
    → m ≡ cond (ltb a 16) (attr_word a) 0
    → b + k + m ≡ host_word G b size a
host_sum {b = b} {size = size} {a = a} {h = h} {k = k} {m = m} e x p q = sum_word b h a k m p (attr_known x.few q) ∙ rw e (sym (accepted_word x))

-- a frame that is read has attributes below 16, and its base is a multiple of its size
pub framed : {G : Granule} → Sane G → (size : ℕ) {h : ℕ} → h ≡ height_of G size → h ≤ G.large → (w : ℕ) {x : Entry} (r : Result Meaning Refusal)
    → x ≡ frame_at G h w → IfOk r (λ m. x ≡ Frame m.base m.attributes) → IfOk r (λ m. (m.attributes < 16) × (m.base % size ≡ 0))
framed S size e l w (Ok m) f is =
    let F = (frame_at_only S _ w (sym f ∙ is)).0 in (F.few, subst (λ (s : ℕ). m.base % s ≡ 0) (rw e (height_size _ size (omega arith))) F.aligned)
framed S size e l w (Err r) f is = is
