-- What a line of a player does is open to it.
use Rattle.std.proofs.Common.{◌≡◌, ◌==◌, ℕ, Bool, true, false, cond, List, [], ◌∷◌, refl, sym, subst, Option, Some, None}
use Rattle.muck_model.proofs.Dbrefs.{same_eq}
use Rattle.std.specs.Prelude.{codes, ◌||◌}
use Rattle.muck_prop.specs.Paths.{class_of}
use Rattle.muck_match.specs.declared.exits.ExitHit.{ExitHit}
use Rattle.muck_match.specs.Exits.{exit_for}
use Rattle.spec_live.specs.Seen.{scenery_of}
use Rattle.spec_live.specs.Objects.{Entry}
use Rattle.spec_live.specs.Lives.{Live, reading, unchanged}
use Rattle.spec_rights.specs.declared.act.Actor.{Actor}
use Rattle.spec_rights.specs.Verdict.{is_guarded}
use Rattle.spec_rights.specs.Licence.{Freedom, moving_freely, clearing, oneself}
use Rattle.spec_rights.proofs.Licences.{Own, Proper, Whole, Always, itself, whole_ends, whole_quiet, ends_stays, quiet_unchanged, whole_by}
use Rattle.spec_commands.specs.declared.outcome.Outcome.{Outcome}
use Rattle.spec_commands.specs.declared.outcome.Outcome.TheVariants.{Done, NotMine}
use Rattle.spec_commands.specs.declared.word.PlayWord.{PlayWord}
use Rattle.spec_commands.specs.declared.word.PlayWord.TheVariants.{Look, Say, Pose, Go, Get, Drop, Home}
use Rattle.spec_live.specs.declared.message.Message.{Message}
use Rattle.spec_live.specs.declared.message.Message.TheVariants.{Describe, Success, OthersSuccess, Fail, OthersFail, Drop as DropMessage, OthersDrop}
use Rattle.spec_commands.specs.declared.word.BuildWord.{BuildWord}
use Rattle.spec_commands.specs.declared.shape.Shape.{Shape}
use Rattle.spec_commands.specs.declared.shape.Arguments.{Arguments}
use Rattle.spec_commands.specs.declared.word.BuildWord.TheVariants.{Unlink, Recycle, Find, Program, Edit, List as ListWord, Run}
use Rattle.spec_commands.specs.Finding.{message_path, look_shown, thing_examined}
use Rattle.spec_commands.specs.Texts.{first_word, other_words, trimmed}
use Rattle.spec_commands.specs.Talking.{said, posed, paged, whispered}
use Rattle.spec_commands.specs.Going.{Play, ended, exit_walked}
use Rattle.spec_commands.specs.Free.{moves_word, moves_by, free_play, clears_word, clears, free_command, free_through, free_line}
use Rattle.spec_commands.specs.Reading.{looked_up, with_command_word, by_table}
use Rattle.spec_commands.specs.Commands.{play_words, play_shape, line_typed, play_done, said_by_sign, play_line, message_name, build_words, build_shape, build_done, build_line, or_next, play_or_else, commanded, begins_with_sign, through, played}
use Rattle.spec_commands.proofs.Showing.{seeing, hearing}
use Rattle.spec_live.proofs.Keeping.{Keeps, keeps_either}
use Rattle.spec_commands.proofs.Built.{building, link_cleared_open, quiet_find_shown}
use Rattle.spec_commands.proofs.Programmed.{program_made_open, program_edited_open, program_listed_open, program_run_open}
use Rattle.spec_commands.proofs.Plain.{After, Untuned, plain_walked, plain_play, plain_build}
use Rattle.spec_commands.proofs.Lawful.{Lawful, lawful_with, open_quiet, open_ends, open_play}
use Rattle.spec_commands.specs.declared.typed.Typed.{Typed}
use Rattle.spec_commands.proofs.Gone.{world_of, whole_ended, walked_open, went_open, taken_open, dropped_open, recycled_open, stays_gone_home, quiet_inventory_shown}

-- What players do. Who walks moves itself, and who takes or drops what is at hand.

pub self_free : (a : Actor) → (oneself a).moves a.player ≡ true
self_free a = same_eq a.player a.player refl

-- what its word is for, where the word may be of builders too
abbrev WordFree : Bool → PlayWord → Actor → List Entry → Freedom
WordFree may command a es = clearing may (moving_freely (moves_word (Some command) a es))

-- most only show
ruleset showing = (seeing, quiet_inventory_shown)

play_open : (a : Actor) (own : Option ℕ) (may : Bool) (d : ℕ) (typed : Typed) (command : PlayWord) (args : Arguments) → Whole world_of a own (WordFree may command a) Always (play_done d a typed command args)
unfolding play_done look_shown thing_examined said posed paged whispered
play_open a own may d typed Look args = open_ends a own _ _ (λ now. ends_stays a now None _ (search (hearing, keeps_either)))
play_open a own may d typed Go args = whole_ends world_of a own _ Always _ (λ w h. went_open a _ d _ (self_free a))
play_open a own may d typed Get args = whole_ended a own _ Always Done _ (taken_open a own _ d typed _ (λ es x h. h))
play_open a own may d typed Drop args = whole_ended a own _ Always Done _ (dropped_open a own _ d typed _ (λ es x h. h))
play_open a own may d typed Home args = whole_ended a own _ Always Done _ (whole_ends itself a own _ Always _ (λ w h. ends_stays a _ None _ (stays_gone_home a _ None d typed (self_free a))))
play_open a own may d typed command args = open_quiet a own _ _ _ (search showing depth 7)

play_lawful : (a : Actor) (own : Option ℕ) (may : Bool) (d : ℕ) (typed : Typed) (command : PlayWord) (args : Arguments) → Lawful Untuned a own (WordFree may command a) (play_done d a typed command args)
play_lawful a own may d typed command args = record { licence = play_open a own may d typed command args; follows = plain_play d a typed command args }

-- What builders do.

pub message_guarded : (message : Message) → is_guarded (class_of (message_path (message_name message))) ≡ true
message_guarded Describe = refl
message_guarded Success = refl
message_guarded OthersSuccess = refl
message_guarded Fail = refl
message_guarded OthersFail = refl
message_guarded DropMessage = refl
message_guarded OthersDrop = refl

ruleset making = (building, message_guarded)

build_open : (a : Actor) (own : Option ℕ) (free : List Entry → Freedom) (d : ℕ) (line : List ℕ) (command : BuildWord) (args : Arguments) → Whole world_of a own (λ es. clearing (clears_word (Some command)) (free es)) Always (build_done d a line command args)
unfolding build_done
build_open a own free d line Unlink args = whole_ended a own _ Always Done _ (whole_ends itself a own _ Always _ (λ w h. link_cleared_open a _ d _ refl))
build_open a own free d line Recycle args = whole_ended a own _ Always Done _ (recycled_open a own _ d args.first.object)
build_open a own free d line Find args = open_quiet a own _ _ _ (quiet_find_shown d a args.first.text)
build_open a own free d line Program args = open_play a own _ _ (λ now. search program_made_open)
build_open a own free d line Edit args = open_play a own _ _ (λ now. search program_edited_open)
build_open a own free d line ListWord args = open_play a own _ _ (λ now. search program_listed_open)
build_open a own free d line Run args = open_play a own _ _ (λ now. search program_run_open)
build_open a own free d line command args = open_ends a own _ _ (λ now. search making)

pub build_lawful : (a : Actor) (own : Option ℕ) (free : List Entry → Freedom) (d : ℕ) (line : List ℕ) (command : BuildWord) (args : Arguments) → Lawful Untuned a own (λ es. clearing (clears_word (Some command)) (free es)) (build_done d a line command args)
build_lawful a own free d line command args = record { licence = build_open a own free d line command args; follows = plain_build d a line command args }

-- A whole line.

-- what isn't its own a line leaves as it was
abbrev pub Leaves : (Outcome → Type 0) → Live → Live × Outcome → Type 0
Leaves P w (v, NotMine) = v ≡ w
Leaves P w (v, outcome) = After P outcome

abbrev pub Left : (Live → Outcome → Type 0) → Play → Type 0
Left P f = Keeps (λ (w : Live) (y : Live × Outcome). Leaves (P w) w y) f

leaves_own : (P : Outcome → Type 0) (w v : Live) (outcome : Outcome) → After P outcome → Leaves P w (v, outcome)
leaves_own P w v NotMine h = absurd h
leaves_own P w v outcome h = h

next_kept : (P : Outcome → Type 0) (S : Live × Outcome → Type 0) (g : Play) (w v : Live) (outcome : Outcome) → Leaves P w (v, outcome) → S (v, outcome) → S (g w) → S (or_next g (v, outcome))
next_kept P S g w v NotMine h r s = subst (λ (u : Live). S (g u)) (sym h) s
next_kept P S g w v outcome h r s = r

-- a line keeps to the licence, and where it is its own, P is so of what is to follow
pub record Leading (P : Live → Outcome → Type 0) (a : Actor) (own : Option ℕ) (free : List Entry → Freedom) (f : Play) : Type 0 where
  pub licence : Whole world_of a own free Always f
  pub left : Left P f

-- what is so of a line and of the next is so where the first leaves to the next what isn't its own
pub keeps_or : {R : Live → Live × Outcome → Type 0} (P : Live → Outcome → Type 0) (f g : Play) → Left P f → Keeps R f → Keeps R g → Keeps R (play_or_else f g)
unfolding play_or_else
keeps_or {R} P f g left p q = record { law = λ w. next_kept (P w) (R w) g w (f w).0 (f w).1 (left.law w) (p.law w) (q.law w) }

leading_lawful : {P : Live → Outcome → Type 0} (a : Actor) (own : Option ℕ) (free : List Entry → Freedom) (f : Play) → Lawful P a own free f → Leading P a own free f
leading_lawful {P} a own free f p = record { licence = p.licence; left = record { law = λ w. leaves_own (P w) w (f w).0 (f w).1 (p.follows.law w) } }

leading_none : (P : Live → Outcome → Type 0) (a : Actor) (own : Option ℕ) (free : List Entry → Freedom) → Leading P a own free (ended NotMine unchanged)
unfolding ended unchanged
leading_none P a own free = record { licence = whole_ended a own free Always NotMine unchanged (whole_quiet a own free Always unchanged quiet_unchanged); left = record { law = λ w. refl } }

-- a line that is looked up in a table
pub leading_found : {C : Type 0} (P : Live → Outcome → Type 0) (a : Actor) (own : Option ℕ) (free : Option C → List Entry → Freedom) (shape_of : C → Shape) (go : C → Arguments → Play) (d : ℕ) (word text : List ℕ) (found : Option C) →
    ((command : C) (args : Arguments) → Lawful P a own (free (Some command)) (go command args)) → Leading P a own (free found) (with_command_word shape_of go d a word text found)
leading_found P a own free shape_of go d word text None p = leading_none P a own (free None)
leading_found P a own free shape_of go d word text (Some command) p = leading_lawful a own (free (Some command)) _ (lawful_with a own (free (Some command)) d word (shape_of command) text (go command) (p command))

signed_lawful : (a : Actor) (own : Option ℕ) (may : Bool) (d : ℕ) (command : PlayWord) (word text : List ℕ) → Lawful Untuned a own (WordFree may command a) (said_by_sign d a command word text)
unfolding said_by_sign
signed_lawful a own may d command word text = lawful_with a own (WordFree may command a) d word (play_shape command) text _ (play_lawful a own may d _ command)

pub play_leading : (a : Actor) (own : Option ℕ) (may : Bool) (d : ℕ) (line : List ℕ) → Leading Untuned a own (λ es. clearing may (free_play a line es)) (play_line d a line)
unfolding play_line by_table free_play
play_leading a own may d [] = leading_none Untuned a own _
play_leading a own may d (b ∷ line) = at (b == 34) (b == 58)
  where
    at : (q r : Bool) → Leading Untuned a own (λ es. clearing may (moving_freely (moves_by (q || r) (looked_up play_words (first_word (trimmed (b ∷ line)))) a es)))
        (cond q (said_by_sign d a Say (codes "say") (trimmed line)) (cond r (said_by_sign d a Pose (codes "pose") (trimmed line))
        (with_command_word play_shape (play_done d a (line_typed (b ∷ line))) d a (first_word (trimmed (b ∷ line))) (trimmed (other_words (trimmed (b ∷ line)))) (looked_up play_words (first_word (trimmed (b ∷ line)))))))
    at true r = leading_lawful a own _ _ (signed_lawful a own may d Say _ _)
    at false true = leading_lawful a own _ _ (signed_lawful a own may d Pose _ _)
    at false false = leading_found Untuned a own (λ word es. clearing may (moving_freely (moves_word word a es))) play_shape _ d _ _ (looked_up play_words (first_word (trimmed (b ∷ line)))) (play_lawful a own may d _)

pub build_leading : (a : Actor) (own : Option ℕ) (free : List Entry → Freedom) (d : ℕ) (line : List ℕ) → Leading Untuned a own (λ es. clearing (clears line) (free es)) (build_line d a line)
unfolding build_line by_table clears
build_leading a own free d line = leading_found Untuned a own (λ word es. clearing (clears_word word) (free es)) build_shape _ d _ _ (looked_up build_words (first_word (trimmed line))) (build_lawful a own free d line)

commanded_leading : (a : Actor) (own : Option ℕ) (d : ℕ) (line : List ℕ) → Leading Untuned a own (free_command a line) (commanded d a line)
unfolding commanded
commanded_leading a own d line = record { licence = keeps_or Untuned _ _ play.left play.licence build.licence; left = keeps_or Untuned _ _ play.left play.left build.left }
  where
    play : Leading Untuned a own (free_command a line) (play_line d a line)
    play = play_leading a own (clears line) d line

    build : Leading Untuned a own (free_command a line) (build_line d a line)
    build = build_leading a own (free_play a line) d line

walked_lawful : (a : Actor) (own : Option ℕ) (d : ℕ) (hit : ExitHit) (line : List ℕ) → Lawful Untuned a own (λ es. oneself a) (exit_walked d a hit line)
walked_lawful a own d hit line = record { licence = whole_ends world_of a own _ Always _ (λ w h. walked_open a (oneself a) d hit line (self_free a)); follows = plain_walked d a hit line }

through_leading : (a : Actor) (own : Option ℕ) (d : ℕ) (line : List ℕ) (hit : Option ExitHit) → Leading Untuned a own (free_through false hit a line) (through d a line hit)
through_leading a own d line (Some hit) = leading_lawful a own _ _ (walked_lawful a own d hit line)
through_leading a own d line None = commanded_leading a own d line

pub played_leading : (a : Actor) (own : Option ℕ) (d : ℕ) (line : List ℕ) → Leading Untuned a own (free_line a line) (played d a line)
unfolding played free_line reading
played_leading a own d line = record { licence = whole_by _ (λ w c h. (at w (begins_with_sign line)).0 c); left = record { law = λ w. (at w (begins_with_sign line)).1 } }
  where
    hit_in : Live → Option ExitHit
    hit_in w = exit_for (scenery_of w.objects) a.player line

    done : Bool → Play
    done b = cond b (commanded d a line) (reading hit_in (through d a line))

    at : (w : Live) (b : Bool) → (Own own w a → Proper a (free_through b (hit_in w) a line w.objects) w (world_of (done b w))) × Leaves (Untuned w) w (done b w)
    at w true = let p = commanded_leading a own d line in (λ c. (p.licence.law w).law c tt, p.left.law w)
    at w false = let p = through_leading a own d line (hit_in w) in (λ c. (p.licence.law w).law c tt, p.left.law w)

pub played_open : (a : Actor) (own : Option ℕ) (d : ℕ) (line : List ℕ) → Whole world_of a own (free_line a line) Always (played d a line)
played_open a own d line = (played_leading a own d line).licence
