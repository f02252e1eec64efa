-- What is told of an answer is told of an equal one.
use Prim.Native.Nat.{ℕ, ◌+◌, ◌<◌, ◌^◌}
use mathlib.Core.List.{List}
use native.Mathlib.Omega.{arith}
use mathlib.Core.Path.{◌≡◌, sym, ap, ◌∙◌, subst}
use Rattle.path.specs.declared.Setup.{Setup}
use Rattle.model.specs.Answers.{Answer, Done, left, Listed}
use Rattle.std.specs.Prelude.{Bool, true, false, cond, ltb, Ok}
use Rattle.path.specs.Geometry.{Granule, height_of}
use Rattle.entry.specs.Words.{frame_at}
use Rattle.entry.specs.Host.{sized_by, host_meaning, meaning_of}
use Rattle.host.specs.declared.Meaning.{Meaning}
use Rattle.host.specs.Says.{says_meaning}
use Rattle.host.specs.HostLaws.{meaning_lt}
use Rattle.oakabut.specs.Surface.{number_of, list_places, Told, Left, Wrote}

-- the paper's answer, which the code's is
pub hears : {places_of : Answer → List ℕ} {a b : Answer} {n : ℕ} {p : List ℕ} → a ≡ b → Told a places_of n p → Told b places_of n p
hears {places_of} e t = record { number_is = t.number_is ∙ ap number_of e; places_are = t.places_are ∙ ap places_of e }

-- and what the call leaves
pub leaves : (places_of : Setup → Answer → List ℕ) {x : Answer} {s : Setup} {w u l : List ℕ} {e : Done} {n : ℕ} {p : List ℕ} → left x s w u l ≡ e → Told x (places_of s) n p → Left e places_of n p w u l
leaves places_of q t = record {
  told = record {
    number_is = t.number_is ∙ ap (λ (d : Done). number_of d.answer) q;
    places_are = t.places_are ∙ ap (λ (d : Done). places_of d.after.numbers d.answer) q;
  };
  words_are = ap (λ (d : Done). d.after.words) q;
  cut_is = ap (λ (d : Done). d.after.cut) q;
  list_is = ap (λ (d : Done). d.after.list) q;
}

-- what is left of a pool is left of an equal one
pub stays : {places_of : Setup → Answer → List ℕ} {d e : Done} {n : ℕ} {p w u l : List ℕ} → d ≡ e → Left d places_of n p w u l → Left e places_of n p w u l
stays {places_of} {d} {e} {n} {p} {w} {u} {l} q t = subst (λ (x : Done). Left x places_of n p w u l) q t

-- and what list does
pub writes : {x y : Listed} {n : ℕ} {a : List ℕ} → x ≡ y → Told x.answer list_places n a → Wrote y n a x.places x.entries
writes q t = record {
  told = hears (ap (λ (l : Listed). l.answer) q) t;
  places_are = ap (λ (l : Listed). l.places) q;
  entries_are = ap (λ (l : Listed). l.entries) q;
}

-- a word's meaning fits a word
meaning_below : (G : Granule) (w size : ℕ) → host_meaning G w size < 2 ^ 64
unfolding host_meaning
meaning_below G w size = go (ltb G.large (height_of G size))
  where
    go : (b : Bool) → cond b 2 (meaning_of (frame_at G (height_of G size) w)) < 2 ^ 64
    go true = omega arith
    go false = meaning_lt G (height_of G size) w

pub number_lt : (m : Meaning) (w size : ℕ) → says_meaning (Ok m) ≡ host_meaning (sized_by size) w size → m.base + 16 + m.attributes < 2 ^ 64
number_lt m w size e = subst (λ (n : ℕ). n < 2 ^ 64) (sym e) (meaning_below (sized_by size) w size)
