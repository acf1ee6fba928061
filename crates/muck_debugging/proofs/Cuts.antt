-- Lemmas on reading lines.
use Rattle.std.proofs.Common.{◌≡◌, ℕ, ◌+◌, ◌<◌, List, [], ◌∷◌, ◌++◌, length, refl, sym, ◌∙◌, ap, suc, append_assoc, Option, Some, None, Result, Ok, Err}
use Rattle.std.proofs.lemmas.Bool.{cond-true, lt-ltb}
use Rattle.muck_script.specs.Lines.{lines_of}
use Rattle.muck_script.specs.Script.{script_most, read_part}
use Rattle.muck_debugging.specs.declared.act.DebugAct.{DebugAct}
use Rattle.muck_debugging.specs.Grammar.{debug_act_of, with_debug_act, debug_acts_from, debug_acts_of, debug_refused_at, debug_script_of}

-- these acts stand before the others
abbrev pub with_all : List DebugAct → Result (List DebugAct) ℕ → Result (List DebugAct) ℕ
with_all front (Ok acts) = Ok (front ++ acts)
with_all front (Err n) = Err n

pub with_all-with_first : (front : List DebugAct) (act : DebugAct) (n : ℕ) (rest : Result (List DebugAct) ℕ) → with_all (front ++ act ∷ []) rest ≡ with_all front (with_debug_act (Some act) n rest)
with_all-with_first front act n (Ok acts) = ap Ok (append_assoc front (act ∷ []) acts)
with_all-with_first front act n (Err m) = refl

-- a line that is read
pub goes_on : (front : List DebugAct) (act : DebugAct) (n : ℕ) (asked : Option DebugAct) (line rest : List ℕ) (bytes : List ℕ) (all : Result (List DebugAct) ℕ) →
    lines_of bytes ≡ line ∷ lines_of rest → debug_act_of line ≡ Some act →
    with_all front (debug_acts_from n (lines_of bytes)) ≡ all →
    with_all (front ++ act ∷ []) (debug_acts_from (n + 1) (lines_of rest)) ≡ all
goes_on front act n asked line rest bytes all e a h =
    with_all-with_first front act n (debug_acts_from (n + 1) (lines_of rest))
    ∙ ap (λ o. with_all front (with_debug_act o n (debug_acts_from (n + 1) (lines_of rest)))) (sym a)
    ∙ ap (λ ls. with_all front (debug_acts_from n ls)) (sym e) ∙ h

-- a line that is outside
pub stops : (front : List DebugAct) (n : ℕ) (line rest bytes : List ℕ) (all : Result (List DebugAct) ℕ) →
    lines_of bytes ≡ line ∷ lines_of rest → debug_act_of line ≡ None →
    with_all front (debug_acts_from n (lines_of bytes)) ≡ all → all ≡ Err n
stops front n line rest bytes all e a h =
    sym h ∙ ap (λ ls. with_all front (debug_acts_from n ls)) e ∙ ap (λ o. with_all front (with_debug_act o n (debug_acts_from (n + 1) (lines_of rest)))) a

first_ok : (o : Option DebugAct) (n : ℕ) (rest : Result (List DebugAct) ℕ) (acts : List DebugAct) (count : ℕ) → ((others : List DebugAct) → rest ≡ Ok others → length others ≡ count) →
    with_debug_act o n rest ≡ Ok acts → length acts ≡ suc count
first_ok None n rest acts count more e = cc
first_ok (Some act) n (Err m) acts count more e = cc
first_ok (Some act) n (Ok others) acts count more e =
    let same : act ∷ others ≡ acts = cc in
    sym (ap (λ (xs : List DebugAct). length xs) same) ∙ ap suc (more others refl)

-- each line is one act
pub length-acts : (n : ℕ) (lines : List (List ℕ)) (acts : List DebugAct) → debug_acts_from n lines ≡ Ok acts → length acts ≡ length lines
length-acts n [] acts e = let same : [] ≡ acts = cc in sym (ap (λ (xs : List DebugAct). length xs) same)
length-acts n (line ∷ lines) acts e = first_ok (debug_act_of line) n (debug_acts_from (n + 1) lines) acts (length lines) (λ others o. length-acts (n + 1) lines others o) e

-- Scripts that are too long, and those that aren't.

pub script_long : (bytes : List ℕ) → script_most < length bytes → debug_script_of bytes ≡ debug_refused_at (length (lines_of (read_part bytes))) (debug_acts_of (read_part bytes))
script_long bytes h = cond-true _ _ _ (lt-ltb _ _ h)

-- no line before the last is outside
pub long_last : (bytes part : List ℕ) (acts : List DebugAct) → script_most < length bytes → part ≡ read_part bytes → debug_acts_of part ≡ Ok acts → debug_script_of bytes ≡ Err (length acts)
long_last bytes part acts h p e =
    let read : debug_acts_of (read_part bytes) ≡ Ok acts = sym (ap debug_acts_of p) ∙ e in
    let count : length acts ≡ length (lines_of (read_part bytes)) = length-acts 1 (lines_of (read_part bytes)) acts read in
    script_long bytes h ∙ ap (debug_refused_at (length (lines_of (read_part bytes)))) read ∙ ap Err (sym count)
