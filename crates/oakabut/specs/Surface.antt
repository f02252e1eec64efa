-- The calls' answers in plain numbers, as a caller in C finds them: the returned number, and the places behind the pointer `answer`.
use Rattle.std.specs.Prelude.{ℕ, List, [], ◌∷◌, ◌++◌, length, get_or, take, ◌≡◌}
use Rattle.path.specs.Geometry.{Granule, granule_of}
use Rattle.path.specs.Numbers.{setup_at}
use Rattle.path.specs.declared.Setup.{Setup}
use Rattle.model.specs.Answers.{Answer, answered, refusal, Pool, pool, Done, Listed}

-- 0, or the refusal's number
abbrev pub number_of : Answer → ℕ
number_of (answered values) = 0
number_of (refusal k values) = k

-- what an answer tells beside; a refusal tells these zeros, as many as the call has places for it
abbrev pub told_of : (zeros : List ℕ) → Answer → List ℕ
told_of zeros (answered values) = values
told_of zeros (refusal k values) = zeros

-- two places more for what a refusal carries, which is 9's hole; zeros where there is none
abbrev pub carried_of : List ℕ → List ℕ
carried_of [] = 0 ∷ 0 ∷ []
carried_of (x ∷ l) = x ∷ l

abbrev pub holed_of : (zeros : List ℕ) → Answer → List ℕ
holed_of zeros (answered values) = values ++ (0 ∷ 0 ∷ [])
holed_of zeros (refusal k values) = zeros ++ carried_of values

-- the granule of such a setup
abbrev pub granule_at : List ℕ → Granule
granule_at l = granule_of (get_or l 6 0)

-- the pool that a caller hands over: its setup numbers, the words of both runs, how many of them are the first's, and the list
abbrev pub pool_at : (numbers words : List ℕ) (cut : ℕ) (list : List ℕ) → Pool
pool_at s w c l = pool (setup_at s) w c l

-- places that begin with a setup
abbrev pub after : Setup → List ℕ → List ℕ
after s l = s.levels ∷ s.base ∷ s.tables ∷ s.free ∷ s.base2 ∷ s.tables2 ∷ s.granule ∷ l

-- the places of each call's answer: of format and of an add,
abbrev pub setup_places : Setup → Answer → List ℕ
setup_places s a = after s (told_of [] a)

-- and of the others; a range that is mapped has map's,
abbrev pub map_places : Setup → Answer → List ℕ
map_places s a = after s (told_of (0 ∷ []) a)

abbrev pub unmap_places : Setup → Answer → List ℕ
unmap_places s a = after s (holed_of (0 ∷ 0 ∷ 0 ∷ 0 ∷ []) a)

abbrev pub remove_places : Setup → Answer → List ℕ
remove_places s a = after s (told_of (0 ∷ 0 ∷ []) a)

abbrev pub query_places : Answer → List ℕ
query_places = holed_of (0 ∷ 0 ∷ 0 ∷ 0 ∷ [])

abbrev pub audit_places : Answer → List ℕ
audit_places = told_of (0 ∷ 0 ∷ [])

-- of list three: what it wrote stands in the two runs
abbrev pub list_places : Answer → List ℕ
list_places a = take 3 (told_of (0 ∷ 0 ∷ 0 ∷ []) a)

-- an answer as the caller finds it
pub record Told (a : Answer) (places_of : Answer → List ℕ) (number : ℕ) (places : List ℕ) : Type 0 where
  pub number_is : number ≡ number_of a
  pub places_are : places ≡ places_of a

-- the same of a call that changes the pool, with the two lent runs of words and the list after it
pub record Left (d : Done) (places_of : Setup → Answer → List ℕ) (number : ℕ) (places words second list : List ℕ) : Type 0 where
  pub told : Told d.answer (places_of d.after.numbers) number places
  pub words_are : words ++ second ≡ d.after.words
  pub cut_is : length words ≡ d.after.cut
  pub list_is : list ≡ d.after.list

-- and of list, with the two runs that it writes
pub record Wrote (d : Listed) (number : ℕ) (answer places entries : List ℕ) : Type 0 where
  pub told : Told d.answer list_places number answer
  pub places_are : places ≡ d.places
  pub entries_are : entries ≡ d.entries
