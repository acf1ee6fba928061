-- What objects are written with are texts.
use Rattle.std.proofs.Common.{◌≡◌, ◌≤◌, ◌<◌, ℕ, Bool, cond, List, [], ◌∷◌, ◌++◌, length, drop, None, refl, arith, sym, ap, ◌∙◌, subst, append_assoc}
use Rattle.std.specs.Prelude.{codes, Result, Ok, Err}
use Rattle.std.specs.List.{filter, flat_map}
use Rattle.std.proofs.lemmas.Bool.{lt-ltb}
use Rattle.std.proofs.lemmas.List.{append-nil, length-append, length-drop}
use Rattle.muck_laws.proofs.Lists.{sign_put}
use Rattle.muck_laws.proofs.Tests.{all_append, all_cons, all_drop, all_filter, few_filter}
use Rattle.muck_model.specs.declared.dbref.Dbref.{Dbref}
use Rattle.mpi.specs.declared.fault.MpiFault.{MpiFault}
use Rattle.mpi.specs.declared.fault.MpiFault.TheVariants.{TooLong}
use Rattle.mpi.specs.Hosting.{Means}
use Rattle.spec_live.specs.Objects.{Entry}
use Rattle.spec_mpi.specs.Telling.{sign_in, signs_in}
use Rattle.muck_mpi.specs.inner.Signing.{signs_behind}
use Rattle.muck_model.specs.Bytes.{text_fault, text_most}
use Rattle.muck_model.specs.declared.dbref.Flags.{Flags}
use Rattle.spec_live.specs.Flags.{has_flag, flag_of}
use Rattle.spec_live.specs.Seen.{flag_letters}
use Rattle.mpi.specs.Made.{Inside, is_long, text_or_long}
use Rattle.mpi.proofs.Inside.{is_inside, made_is_text, text_inside}

-- a name behind a `*`
pub name_text : (name : List ℕ) → text_fault name ≡ None → length name ≤ 80 → text_fault (42 ∷ name) ≡ None
name_text name h short = made_is_text (42 ∷ name) (all_cons is_inside 42 name refl (text_inside name h)) (omega (arith, short))

pub ruleset name_texts = (name_text)

-- Letters of flags.

pub flag_text : (flags : Flags) → text_fault (flag_letters flags) ≡ None
unfolding flag_letters
flag_text flags =
    let q : ℕ → Bool = λ letter. has_flag (flag_of letter) flags in
    let most : length (filter q (codes "ABCDHJKLQSVWXZ")) ≤ 14 = few_filter q (codes "ABCDHJKLQSVWXZ") in
    made_is_text (filter q (codes "ABCDHJKLQSVWXZ")) (all_filter is_inside q (codes "ABCDHJKLQSVWXZ") refl) (omega (arith, most))

pub ruleset flag_texts = (flag_text)

-- Lists of signs, as they grow by one.

pub sign_inside : (text new sign whole : List ℕ) → Inside text → text_fault sign ≡ None → new ≡ text ++ 13 ∷ [] → whole ≡ new ++ sign → Inside whole
sign_inside text new sign whole h s n w =
    subst Inside (sym (w ∙ ap (λ ys. ys ++ sign) n)) (all_append is_inside (text ++ 13 ∷ []) sign (all_append is_inside text (13 ∷ []) h refl) (text_inside sign s))

pub ruleset sign_steps = (sign_inside, sign_put, append_assoc)

pub inside_drop : (text : List ℕ) → Inside text → Inside (drop 1 text)
inside_drop text h = all_drop is_inside 1 text h

pub ruleset rest_inside = (inside_drop)

-- those that are written before others are lists of signs too
signs_are : (es : List Entry) (ds : List Dbref) → flat_map (λ (d : Dbref). 13 ∷ sign_in es d) ds ≡ signs_behind es ds
unfolding signs_behind
signs_are es [] = refl
signs_are es (d ∷ ds) = ap (λ ys. 13 ∷ (sign_in es d ++ ys)) (signs_are es ds)

signs_in_are : (es : List Entry) (ds : List Dbref) → signs_in es ds ≡ drop 1 (signs_behind es ds)
unfolding signs_in
signs_in_are es ds = ap (λ ys. drop 1 ys) (signs_are es ds)

pub signs_next : (es : List Entry) (text new : List ℕ) (d : Dbref) (rest others : List Dbref) (all : List ℕ) → rest ≡ d ∷ others → new ≡ text ++ 13 ∷ sign_in es d → text ++ signs_behind es rest ≡ all → new ++ signs_behind es others ≡ all
unfolding signs_behind
signs_next es text new d rest others all r n h =
    ap (λ ys. ys ++ signs_behind es others) n ∙ append_assoc text (13 ∷ sign_in es d) (signs_behind es others) ∙ ap (λ ds. text ++ signs_behind es ds) (sym r) ∙ h

-- a front that is too long makes all too long
pub long_signs : (es : List Entry) (ds : List Dbref) (text more : List ℕ) → text ++ more ≡ signs_behind es ds → 4097 < length text → text_or_long (signs_in es ds) ≡ Err TooLong
unfolding is_long
long_signs es ds text more h l =
    let whole : 4097 < length (signs_behind es ds) = omega (arith, length-append text more, ap length h, l) in
    let long : text_most < length (drop 1 (signs_behind es ds)) = omega (arith, length-drop 1 (signs_behind es ds), whole) in
    ap text_or_long (signs_in_are es ds) ∙ ap (λ b. cond b (Err TooLong) (Ok (drop 1 (signs_behind es ds)))) (lt-ltb text_most (length (drop 1 (signs_behind es ds))) long)

pub all_signs : (es : List Entry) (ds : List Dbref) (text seen : List ℕ) (rest : List Dbref) (r : Result (List ℕ) MpiFault) → rest ≡ [] → seen ≡ text → text ++ signs_behind es rest ≡ signs_behind es ds → Means (text_or_long (drop 1 seen)) r → Means (text_or_long (signs_in es ds)) r
unfolding signs_behind
all_signs es ds text seen rest r n e h m =
    let whole : text ≡ signs_behind es ds = sym (append-nil text) ∙ ap (λ ys. text ++ signs_behind es ys) (sym n) ∙ h in
    subst (λ t. Means (text_or_long t) r) (ap (λ ys. drop 1 ys) (e ∙ whole) ∙ sym (signs_in_are es ds)) m

pub signs_begin : (text more : List ℕ) → text ≡ [] → (text ++ more ≡ more) × Inside text
signs_begin text more e = (ap (λ ys. ys ++ more) e, subst Inside (sym e) refl)
