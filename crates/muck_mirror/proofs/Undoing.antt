-- Records that are put back.
use Rattle.std.proofs.Common.{◌≡◌, ℕ, ◌≤◌, List, [], ◌∷◌, ◌++◌, length, take, get_or, refl, sym, ◌∙◌, ap, arith}
use Rattle.std.specs.Prelude.{slice_set}
use Rattle.std.proofs.lemmas.List.{set_past, take-append-le, take_all}
use Rattle.muck_laws.proofs.Places.{restored}
use Rattle.muck_codec.specs.declared.stored.Stored.{Stored}
use Rattle.muck_mirror.specs.declared.world.Replaced.{Replaced}
use Rattle.muck_mirror.specs.inner.Undoing.{put_back, undone}

-- one more record was put aside
pub put_back_push : (rs : List Replaced) (r : Replaced) (objects : List Stored) → put_back (rs ++ r ∷ []) objects ≡ put_back rs (slice_set objects r.at r.was)
unfolding put_back
put_back_push [] r objects = refl
put_back_push (s ∷ rs) r objects = ap (λ l. slice_set l s.at s.was) (put_back_push rs r objects)

-- a record is replaced, and the one that stood there is put aside
pub replaced_back : (rs later : List Replaced) (objects now : List Stored) (count at : ℕ) (new old : Stored) → old ≡ get_or objects at old → now ≡ slice_set objects at new → later ≡ rs ++ record { at = at; was = old } ∷ []
    → undone count later now ≡ undone count rs objects
replaced_back rs later objects now count at new old was is more =
    ap (λ l. put_back l (take count now)) more ∙ ap (λ l. put_back (rs ++ record { at = at; was = old } ∷ []) (take count l)) is
    ∙ put_back_push rs (record { at = at; was = old }) (take count (slice_set objects at new)) ∙ ap (put_back rs) (restored objects count at new old was)

-- a record more stands at the end
pub pushed_back : (rs : List Replaced) (objects now : List Stored) (count : ℕ) (o : Stored) → count ≤ length objects → now ≡ objects ++ o ∷ [] → undone count rs now ≡ undone count rs objects
pushed_back rs objects now count o le is = ap (λ l. put_back rs (take count l)) is ∙ ap (put_back rs) (take-append-le count objects (o ∷ []) le)

-- nothing was put aside yet
pub nothing_back : (rs : List Replaced) (objects : List Stored) → rs ≡ [] → undone (length objects) rs objects ≡ objects
unfolding put_back
nothing_back rs objects none = ap (λ l. put_back l (take (length objects) objects)) none ∙ take_all (length objects) objects (omega arith)

-- a record is put back and more are left
pub one_back : (left rest : List Replaced) (r : Replaced) (objects now last : List Stored) → left ≡ rest ++ r ∷ [] → now ≡ slice_set objects r.at r.was → put_back left objects ≡ last → put_back rest now ≡ last
one_back left rest r objects now last is set so_far = ap (put_back rest) set ∙ sym (put_back_push rest r objects) ∙ ap (λ l. put_back l objects) (sym is) ∙ so_far

-- one of a number that isn't there
pub none_back : (left rest : List Replaced) (r : Replaced) (objects last : List Stored) → left ≡ rest ++ r ∷ [] → length objects ≤ r.at → put_back left objects ≡ last → put_back rest objects ≡ last
none_back left rest r objects last is out so_far = one_back left rest r objects objects last is (sym (set_past objects r.at r.was out)) so_far

pub all_back : (left : List Replaced) (objects last : List Stored) → left ≡ [] → put_back left objects ≡ last → objects ≡ last
unfolding put_back
all_back left objects last none so_far = sym (ap (λ l. put_back l objects) none) ∙ so_far
