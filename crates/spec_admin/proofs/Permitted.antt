-- What a line of a keeper does is open to who types it.
use Rattle.std.proofs.Common.{◌≡◌, ℕ, true, List, refl, subst, Option, Some, None}
use Rattle.muck_model.specs.declared.dbref.Dbref.{Dbref}
use Rattle.muck_model.specs.declared.dbref.Denial.{Denial}
use Rattle.muck_model.specs.declared.tune.Tune.{Tune}
use Rattle.spec_live.specs.Objects.{Entry, dbref_of}
use Rattle.spec_live.specs.Lives.{Live, Change, ◌▸◌, draw, tell, unchanged}
use Rattle.spec_live.proofs.Keeping.{keeps_followed, keeps_reading, keeps_either, keeps_where}
use Rattle.spec_rights.specs.declared.act.Actor.{Actor}
use Rattle.spec_rights.specs.declared.act.Act.TheVariants.{Wizard, Password}
use Rattle.spec_rights.specs.Verdict.{is_master}
use Rattle.spec_rights.specs.Asking.{refused}
use Rattle.spec_rights.specs.Changing.{connections_left}
use Rattle.spec_rights.specs.Licence.{Freedom, Judge, nobody}
use Rattle.spec_rights.proofs.Licences.{Quiet, Stays, Ends, Whole, Always, itself, judge, quiet_order, stays_behind, ends_quiet, ends_stays, ends_quietly, ends_asked, whole_quiet, keeps_asked}
use Rattle.spec_rights.proofs.Shown.{shown, quiet_tell, quiet_draw, quiet_refused}
use Rattle.spec_rights.proofs.Changes.{stays_password}
use Rattle.spec_rights.proofs.Leaving.{stays_booted}
use Rattle.spec_rights.proofs.Behind.{Trailing, trailing_order, trailing_quiet, trailing_password}
use Rattle.spec_commands.specs.declared.outcome.Outcome.{Outcome}
use Rattle.spec_commands.specs.declared.outcome.Outcome.TheVariants.{Done, NotMine}
use Rattle.spec_commands.specs.declared.shape.Arguments.{Arguments}
use Rattle.spec_commands.specs.Texts.{first_word, other_words, trimmed}
use Rattle.spec_commands.specs.Building.{created_shown, change_by_leave, done_where}
use Rattle.spec_commands.specs.Going.{Play, ended}
use Rattle.spec_commands.specs.Programming.{over_denied}
use Rattle.spec_commands.specs.Reading.{looked_up, incomplete, with_command_word, by_table}
use Rattle.spec_commands.proofs.Showing.{quiet_each}
use Rattle.spec_commands.proofs.Built.{quiet_created_shown, player_founded}
use Rattle.spec_commands.proofs.Gone.{world_of, ends_ended}
use Rattle.spec_commands.proofs.Plain.{After}
use Rattle.spec_commands.proofs.Lawful.{Lawful, lawful_with, open_quiet, open_ends, open_play}
use Rattle.spec_commands.proofs.Permitted.{Leading, leading_found}
use Rattle.muck_queue.specs.declared.process.Process.{Process}
use Rattle.muck_queue.specs.Queues.{Queue}
use Rattle.muck_model.specs.declared.tune.Parameter.{Parameter}
use Rattle.spec_admin.specs.declared.word.AdminWord.{AdminWord}
use Rattle.spec_admin.specs.declared.word.AdminWord.TheVariants.{Processes, Kill, Tune as TuneWord, Boot, NewPlayer, NewPassword}
use Rattle.spec_admin.specs.Replies.{killed_reply, booted_reply, password_reply}
use Rattle.spec_admin.specs.Processes.{process_shown, processes_shown, process_meant, end_told, kill_told}
use Rattle.spec_admin.specs.Players.{password_drawn, player_put, player_made, password_changed}
use Rattle.spec_admin.specs.Lines.{by_wizard, parameter_shown, parameters_shown, retune_told, parameter_set, tune_done, player_booted, shouted, admin_words, admin_shape, admin_done, admin_line}
use Rattle.spec_admin.proofs.Following.{AsFollows, follows_command}

-- Listing and ending processes only shows.

quiet_process_shown : (d : ℕ) (p : Process) → Quiet (process_shown d p)
unfolding process_shown
quiet_process_shown d p = search shown

quiet_processes_shown : (d : ℕ) (a : Actor) (q : Queue) → Quiet (processes_shown d a q)
unfolding processes_shown
quiet_processes_shown d a q = keeps_reading _ _ (λ ps. keeps_followed _ _ quiet_order (quiet_each (process_shown d) ps (quiet_process_shown d)) (quiet_tell d _))

quiet_kill_told : (d : ℕ) (a : Actor) (q : Queue) (text : List ℕ) → Quiet (kill_told d a q text)
unfolding kill_told
quiet_kill_told d a q text = at (process_meant text q)
  where
    at : (p : Option Process) → Quiet (end_told d a p)
    at None = quiet_tell d _
    at (Some p) = keeps_asked a _ (refused d) (tell d killed_reply) (quiet_refused d) (quiet_tell d killed_reply)

-- And so does what is told of the parameters. Who sets one leaves that to what follows.

quiet_parameter_shown : (d : ℕ) (tune : Tune) (p : Parameter) → Quiet (parameter_shown d tune p)
unfolding parameter_shown
quiet_parameter_shown d tune p = quiet_tell d _

quiet_parameters_shown : (d : ℕ) → Quiet (parameters_shown d)
unfolding parameters_shown
quiet_parameters_shown d = keeps_reading _ _ (λ tune. quiet_each (parameter_shown d tune) _ (quiet_parameter_shown d tune))

module _ (a : Actor) (own : Option ℕ) (free : List Entry → Freedom) where
  wizard_open : (d : ℕ) (go : Play) → Whole world_of a own free Always go → Whole world_of a own free Always (by_wizard d a go)
  wizard_open d go p = keeps_asked a Wizard (over_denied d) go (λ denial. open_quiet a own free _ _ (quiet_refused d denial)) p

  retune_open : (d : ℕ) (next : Option Tune) → Whole world_of a own free Always (retune_told d next)
  retune_open d None = open_quiet a own free _ _ (quiet_tell d _)
  retune_open d (Some tune) = open_quiet a own free _ _ (quiet_tell d _)

  tune_open : (d : ℕ) (text : List ℕ) → Whole world_of a own free Always (tune_done d a text)
  unfolding tune_done parameter_set incomplete
  tune_open d text =
      keeps_either _ _ _
      (wizard_open d _ (keeps_either _ _ _ (open_quiet a own free _ _ (quiet_parameters_shown d)) (keeps_reading _ (retune_told d) (retune_open d))))
      (open_quiet a own free _ _ (quiet_tell d _))

-- Connections.

booted_open : (a : Actor) (free : Freedom) (d : ℕ) (x : Dbref) → Ends world_of a free None (player_booted d a x)
unfolding player_booted
booted_open a free d x =
    ends_asked world_of a free None Wizard (over_denied d) _
    (λ denial. ends_ended a free None Done _ (ends_quiet a free None _ (quiet_refused d denial)))
    (ends_ended a free (Some Wizard) Done _ (ends_quietly a free (Some Wizard) (connections_left x) (tell d booted_reply) (ends_stays a free (Some Wizard) (connections_left x) (stays_booted a free x)) (quiet_tell d booted_reply)))

-- Players.

drawn_behind : (j : Judge) (x : Dbref) (word : List ℕ) → is_master j.actor ≡ true → Trailing j (password_drawn x word)
unfolding password_drawn
drawn_behind j x word h =
    let quiet : Trailing j draw = trailing_quiet j draw quiet_draw in
    keeps_reading _ _ (λ first. keeps_followed draw _ (trailing_order j) quiet
    (keeps_reading _ _ (λ second. keeps_followed draw _ (trailing_order j) quiet (trailing_password j x _ word h))))

put_open : (a : Actor) (free : Freedom) (d : ℕ) (name word : List ℕ) → Ends itself a free (Some Wizard) (player_put d a name word)
unfolding player_put
put_open a free d name word =
    player_founded a free d name (dbref_of 0) (λ n. password_drawn (dbref_of n) word ▸ created_shown d n)
    (λ start n h. keeps_followed _ _ (trailing_order (judge a free start)) (drawn_behind (judge a free start) (dbref_of n) word h) (trailing_quiet (judge a free start) _ (quiet_created_shown d n)))

player_made_open : (a : Actor) (free : Freedom) (d : ℕ) (name word : List ℕ) → Ends itself a free None (player_made d a name word)
unfolding player_made
player_made_open a free d name word =
    let told : (text : List ℕ) → Ends itself a free None (tell d text) = λ text. ends_quiet a free None _ (quiet_tell d text) in
    keeps_where _ _ _ (told _)
    (keeps_either _ _ _ (ends_asked itself a free None Wizard (refused d) _ (λ denial. ends_quiet a free None _ (quiet_refused d denial)) (put_open a free d name word)) (told _))

-- a salt may be drawn first
stays_drawn : (a : Actor) (free : Freedom) (x : Dbref) (word : List ℕ) → Stays a free (Some (Password x)) (password_drawn x word)
unfolding password_drawn
stays_drawn a free x word =
    keeps_reading _ _ (λ first. stays_behind a free (Some (Password x)) draw _ quiet_draw
    (keeps_reading _ _ (λ second. stays_behind a free (Some (Password x)) draw _ quiet_draw (stays_password a free x _ word))))

password_changed_open : (a : Actor) (free : Freedom) (d : ℕ) (x : Dbref) (word : List ℕ) → Ends itself a free None (password_changed d a x word)
unfolding password_changed change_by_leave done_where
password_changed_open a free d x word =
    let given = Some (Password x) in
    keeps_either _ _ _
    (ends_asked itself a free None (Password x) (refused d) _ (λ denial. ends_quiet a free None _ (quiet_refused d denial))
    (keeps_where _ _ _ (ends_quiet a free given _ (quiet_tell d _))
    (ends_quietly a free given _ (tell d password_reply) (ends_stays a free given _ (stays_drawn a free x word)) (quiet_tell d password_reply))))
    (ends_quiet a free None _ (quiet_tell d _))

-- A whole line.

word_open : (a : Actor) (own : Option ℕ) (free : List Entry → Freedom) (q : Queue) (d : ℕ) (command : AdminWord) (args : Arguments) → Whole world_of a own free Always (admin_done q d a command args)
unfolding admin_done shouted
word_open a own free q d Processes args = open_quiet a own free _ _ (quiet_processes_shown d a q)
word_open a own free q d Kill args = open_quiet a own free _ _ (quiet_kill_told d a q args.first.text)
word_open a own free q d TuneWord args = tune_open a own free d args.first.text
word_open a own free q d Boot args = open_play a own free _ (λ now. booted_open a now d args.first.object)
word_open a own free q d NewPlayer args = open_ends a own free _ (λ now. player_made_open a now d args.first.text args.second.text)
word_open a own free q d NewPassword args = open_ends a own free _ (λ now. password_changed_open a now d args.first.object args.second.text)
word_open a own free q d command args = wizard_open a own free d _ (open_quiet a own free _ _ (search shown))

admin_lawful : (a : Actor) (own : Option ℕ) (free : List Entry → Freedom) (q : Queue) (d : ℕ) (command : AdminWord) (args : Arguments) → Lawful (AsFollows a) a own free (admin_done q d a command args)
admin_lawful a own free q d command args = record { licence = word_open a own free q d command args; follows = follows_command q d a command args }

pub admin_leading : (a : Actor) (own : Option ℕ) (free : List Entry → Freedom) (q : Queue) (d : ℕ) (line : List ℕ) → Leading (AsFollows a) a own free (admin_line q d a line)
unfolding admin_line by_table
admin_leading a own free q d line = leading_found (AsFollows a) a own (λ command. free) admin_shape (admin_done q d a) d _ _ (looked_up admin_words (first_word (trimmed line))) (admin_lawful a own free q d)

-- every change by a line is open to who types it
pub admin_open : (a : Actor) (own : Option ℕ) (free : List Entry → Freedom) (q : Queue) (d : ℕ) (line : List ℕ) → Whole world_of a own free Always (admin_line q d a line)
admin_open a own free q d line = (admin_leading a own free q d line).licence

-- A line is left to another exactly where its first word is none of these; then nothing has changed.

pub admin_left : (q : Queue) (d : ℕ) (a : Actor) (line : List ℕ) (w : Live) → looked_up admin_words (first_word (trimmed line)) ≡ None → admin_line q d a line w ≡ (w, NotMine)
unfolding admin_line by_table ended unchanged
admin_left q d a line w = at (looked_up admin_words (first_word (trimmed line)))
  where
    at : (command : Option AdminWord) → command ≡ None → with_command_word admin_shape (admin_done q d a) d a (first_word (trimmed line)) (trimmed (other_words (trimmed line))) command w ≡ (w, NotMine)
    at None e = refl
    at (Some command) e = absurd (cc)

pub admin_mine : (q : Queue) (d : ℕ) (a : Actor) (line : List ℕ) (w : Live) → (admin_line q d a line w).1 ≡ NotMine → looked_up admin_words (first_word (trimmed line)) ≡ None
unfolding admin_line by_table
admin_mine q d a line w = at (looked_up admin_words (first_word (trimmed line)))
  where
    at : (command : Option AdminWord) → (with_command_word admin_shape (admin_done q d a) d a (first_word (trimmed line)) (trimmed (other_words (trimmed line))) command w).1 ≡ NotMine → command ≡ None
    at None e = refl
    at (Some command) e = absurd (subst (λ (outcome : Outcome). After (AsFollows a w) outcome) e
        ((lawful_with a None (λ es. nobody) d _ (admin_shape command) _ (admin_done q d a command) (admin_lawful a None (λ es. nobody) q d command)).follows.law w))
