-- Lemmas on lines and on reading them.
use Rattle.std.proofs.Common.{◌≡◌, ℕ, ◌+◌, ◌<◌, true, false, not, cond, List, [], ◌∷◌, ◌++◌, length, take, drop, refl, sym, ◌∙◌, ap, arith, suc, Option, Some, None, Result, Ok, Err}
use Rattle.std.specs.List.{position_or_len, onto_first}
use Rattle.muck_follow.specs.Lines.{is_line_feed, lines_of}
use Rattle.std.proofs.lemmas.Bool.{cond-true, lt-ltb}
use Rattle.muck_follow.specs.Script.{mirror_act_of, with_mirror_act, mirror_acts_from, mirror_acts_of, mirror_refused_at, script_most, read_part, mirror_script_of}
use Rattle.muck_follow.specs.declared.act.Act.{Act}

pub first_line : (b : ℕ) (bytes : List ℕ) →
    lines_of (b ∷ bytes) ≡ take (position_or_len is_line_feed (b ∷ bytes)) (b ∷ bytes) ∷ lines_of (drop (position_or_len is_line_feed (b ∷ bytes) + 1) (b ∷ bytes))
first_line b [] =
    elim (is_line_feed b) as (λ t.
    cond t ([] ∷ []) ((b ∷ []) ∷ []) ≡ take (cond (not t) 1 0) (b ∷ []) ∷ lines_of (drop (cond (not t) 1 0 + 1) (b ∷ []))) [
      | true ↦ refl
      | false ↦ refl
    ]
first_line b (c ∷ bytes) =
    elim (is_line_feed b) as (λ t.
    cond t ([] ∷ lines_of (c ∷ bytes)) (onto_first b (lines_of (c ∷ bytes)))
    ≡ take (cond (not t) (1 + position_or_len is_line_feed (c ∷ bytes)) 0) (b ∷ c ∷ bytes) ∷ lines_of (drop (cond (not t) (1 + position_or_len is_line_feed (c ∷ bytes)) 0 + 1) (b ∷ c ∷ bytes))) [
      | true ↦ refl
      | false ↦
          let one : 1 + position_or_len is_line_feed (c ∷ bytes) ≡ suc (position_or_len is_line_feed (c ∷ bytes)) = omega arith in
          let more : suc (position_or_len is_line_feed (c ∷ bytes)) + 1 ≡ suc (position_or_len is_line_feed (c ∷ bytes) + 1) = omega arith in
          ap (onto_first b) (first_line c bytes) ∙ rw (one, more) refl
    ]

-- the first line of what isn't empty
pub line_cut : (bytes line rest : List ℕ) (at : ℕ) → at ≡ position_or_len is_line_feed bytes → 0 < length bytes →
    line ≡ take at bytes → rest ≡ drop (at + 1) bytes → lines_of bytes ≡ line ∷ lines_of rest
line_cut [] line rest at e h p q = absurd (omega arith)
line_cut (b ∷ bytes) line rest at e h p q = first_line b bytes ∙ rw (p, q, e) refl

-- these acts stand before the others
abbrev pub with_all : List Act → Result (List Act) ℕ → Result (List Act) ℕ
with_all front (Ok acts) = Ok (front ++ acts)
with_all front (Err n) = Err n

-- a line that is outside
pub stops : (front : List Act) (n : ℕ) (line rest bytes : List ℕ) (all : Result (List Act) ℕ) →
    lines_of bytes ≡ line ∷ lines_of rest → mirror_act_of line ≡ None →
    with_all front (mirror_acts_from n (lines_of bytes)) ≡ all → all ≡ Err n
stops front n line rest bytes all e a h =
    sym h ∙ ap (λ ls. with_all front (mirror_acts_from n ls)) e ∙ ap (λ o. with_all front (with_mirror_act o n (mirror_acts_from (n + 1) (lines_of rest)))) a

first_ok : (o : Option Act) (n : ℕ) (rest : Result (List Act) ℕ) (acts : List Act) (count : ℕ) → ((others : List Act) → rest ≡ Ok others → length others ≡ count) →
    with_mirror_act o n rest ≡ Ok acts → length acts ≡ suc count
first_ok None n rest acts count more e = cc
first_ok (Some act) n (Err m) acts count more e = cc
first_ok (Some act) n (Ok others) acts count more e =
    let same : act ∷ others ≡ acts = cc in
    sym (ap (λ (xs : List Act). length xs) same) ∙ ap suc (more others refl)

-- each line is one act
pub length-acts : (n : ℕ) (lines : List (List ℕ)) (acts : List Act) → mirror_acts_from n lines ≡ Ok acts → length acts ≡ length lines
length-acts n [] acts e = let same : [] ≡ acts = cc in sym (ap (λ (xs : List Act). length xs) same)
length-acts n (line ∷ lines) acts e = first_ok (mirror_act_of line) n (mirror_acts_from (n + 1) lines) acts (length lines) (λ others o. length-acts (n + 1) lines others o) e

-- Scripts that are too long, and those that aren't.

pub script_long : (bytes : List ℕ) → script_most < length bytes → mirror_script_of bytes ≡ mirror_refused_at (length (lines_of (read_part bytes))) (mirror_acts_of (read_part bytes))
script_long bytes h = cond-true _ _ _ (lt-ltb _ _ h)

-- no line before the last is outside
pub long_last : (bytes part : List ℕ) (acts : List Act) → script_most < length bytes → part ≡ read_part bytes → mirror_acts_of part ≡ Ok acts → mirror_script_of bytes ≡ Err (length acts)
long_last bytes part acts h p e =
    let read : mirror_acts_of (read_part bytes) ≡ Ok acts = sym (ap mirror_acts_of p) ∙ e in
    let count : length acts ≡ length (lines_of (read_part bytes)) = length-acts 1 (lines_of (read_part bytes)) acts read in
    script_long bytes h ∙ ap (mirror_refused_at (length (lines_of (read_part bytes)))) read ∙ ap Err (sym count)
