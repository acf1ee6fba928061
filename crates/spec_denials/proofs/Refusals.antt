-- A line of a builder or a keeper that is denied what it asks for only tells its player so.
use Rattle.std.proofs.Common.{◌≡◌, ℕ, Bool, true, false, cond, List, [], ◌∷◌, Option, Some, None, refl, sym, ap, subst, ◌∙◌}
use Rattle.std.specs.Prelude.{◌&&◌, ◌||◌, ◌==◌, codes, option_map, is_none, is_some}
use Rattle.std.specs.Option.{option_and_then, option_map_or}
use Rattle.muck_model.specs.declared.dbref.Dbref.{Dbref}
use Rattle.muck_model.specs.declared.dbref.Denial.{Denial}
use Rattle.muck_match.specs.declared.exits.ExitHit.{ExitHit}
use Rattle.muck_match.specs.declared.naming.Found.{Found}
use Rattle.muck_match.specs.declared.naming.Found.TheVariants.{One, None as Nobody, Many}
use Rattle.muck_match.specs.Exits.{exit_for}
use Rattle.muck_match.specs.Naming.{thing_found, player_named}
use Rattle.muck_prop.specs.declared.path.PropFault.{PropFault}
use Rattle.muck_prop.specs.Paths.{path_fault, segments_of}
use Rattle.spec_live.specs.Lives.{Live, Change as LiveChange, unchanged, tell, reading, either, where_so, place_at}
use Rattle.spec_live.specs.Objects.{dbref_of, nothing}
use Rattle.spec_live.specs.Seen.{scenery_of}
use Rattle.spec_rights.specs.declared.act.Actor.{Actor}
use Rattle.spec_rights.specs.declared.act.Act.{Act}
use Rattle.spec_rights.specs.declared.act.Act.TheVariants.{Write, Move, Link as LinkAct, NewRoom, NewThing, NewExit, NewProgram, Edit as EditAct, Change, Rename, Password, Wizard, Recycle as RecycleAct, SetOwner, Call}
use Rattle.spec_rights.specs.Asking.{denial_answered, asked, refused}
use Rattle.spec_rights.specs.Verdict.{verdict}
use Rattle.spec_commands.specs.declared.outcome.Outcome.{Outcome}
use Rattle.spec_commands.specs.declared.outcome.Outcome.TheVariants.{Done, NotMine}
use Rattle.spec_commands.specs.declared.setting.Setting.{Setting}
use Rattle.spec_commands.specs.declared.shape.Arguments.{Arguments}
use Rattle.spec_commands.specs.declared.shape.Shape.{Shape}
use Rattle.spec_commands.specs.declared.shape.Want.{Want}
use Rattle.spec_commands.specs.declared.shape.Want.TheVariants.{Nothing, Text, NewName, Found as FoundWant, Object, Player, Program as ProgramWant}
use Rattle.spec_commands.specs.declared.word.BuildWord.{BuildWord}
use Rattle.spec_commands.specs.declared.word.BuildWord.TheVariants.{Dig, Create, Open, Action, Link, Unlink, Name, Set, Lock, Unlock, Teleport, Recycle, Chown, Assign, Find, Program, Edit, List as ListWord, Run}
use Rattle.spec_commands.specs.declared.word.PlayWord.{PlayWord}
use Rattle.spec_commands.specs.declared.word.PlayWord.TheVariants.{Say, Pose}
use Rattle.spec_commands.specs.Building.{found_one, is_name, is_player_name, is_linkable, may_be_called, object_made, thing_made, exit_opened, change_by_leave, link_set, link_cleared, name_set, text_kept, lock_set, teleported, recycled_by_command, chowned}
use Rattle.spec_commands.specs.Commands.{play_words, play_shape, play_done, line_typed, said_by_sign, play_line, build_words, build_shape, build_done, build_line, or_next, play_or_else, commanded, begins_with_sign, through, played}
use Rattle.spec_commands.specs.Finding.{actor_of, finding, finding_player, object_chosen, named_player}
use Rattle.spec_commands.specs.Going.{Play, ended}
use Rattle.spec_commands.specs.Programming.{command_over, over_denied, program_made, program_edited, program_listed, program_run}
use Rattle.spec_commands.specs.Reading.{looked_up, is_empty, has_all_parts, has_full, left_in, right_in, incomplete, name_judged, object_sought, part_meant, are_fit, argued, with_fit, with_parts, with_arguments, with_command_word, by_table}
use Rattle.spec_commands.specs.Replies.{huh, cant_be_done, bad_name}
use Rattle.spec_commands.specs.Settings.{setting_asked, setting_act, word_set, property_set, has_colon, path_part, value_part, assigned}
use Rattle.spec_commands.specs.Texts.{first_word, other_words, trimmed}
use Rattle.spec_admin.specs.declared.word.AdminWord.{AdminWord}
use Rattle.spec_admin.specs.declared.word.AdminWord.TheVariants.{Processes, Kill, Tune as TuneWord, Boot, Wall, NewPlayer, NewPassword, Dump, Shutdown}
use Rattle.spec_admin.specs.Lines.{tune_done, player_booted, shouted, admin_words, admin_shape, admin_done, admin_line, ended_by, line_ends, after_line}
use Rattle.spec_admin.specs.Players.{is_password, player_put, player_made, password_changed}
use Rattle.spec_admin.specs.Processes.{ending_act, process_meant, end_told, kill_told, process_killed, may_end}
use Rattle.muck_queue.specs.declared.process.Process.{Process}
use Rattle.muck_queue.specs.Queues.{Queue, without_process}
use Rattle.spec_events.specs.World.{World, connection}
use Rattle.spec_events.specs.Following.{settled}
use Rattle.spec_events.specs.Lines.{by_keeper, typed, ended_behind, processes_after_line, followed_up, in_world, first_line_done}
use Rattle.spec_denials.specs.Refusals.{meant_of, fit_of, parts_of, arguments_of, where_act, build_act, admin_act, by_admin, by_build, by_play, line_verdict, Refuses, CommandRefuses, LineRefused}
use Rattle.spec_denials.proofs.Commands.{line_so}

-- What a part means is what its command is given.

abbrev taken : {X Y : Type 0} → (X → Y) → Y → Option X → Y
taken f y o = option_map_or f o y

module _ (d : ℕ) (a : Actor) (w : Live) where
  given : (go : Dbref → Play) (x y : Dbref) → ◌≡◌ {A = Option Dbref} (Some y) (Some x) → go y w ≡ go x w
  given go x y e = ap (taken (λ z. go z w) (go x w)) e

  judged_go : (b : Bool) (go : Dbref → Play) (x : Dbref) → cond b (Some nothing) None ≡ Some x → cond b (go nothing w) (command_over d bad_name w) ≡ go x w
  judged_go true go x e = given go x nothing e
  judged_go false go x e = absurd cc

  found_go : (text : List ℕ) (o : Found) (go : Dbref → Play) (x : Dbref) → found_one o ≡ Some x → object_chosen (command_over d) text go o w ≡ go x w
  found_go text (One y) go x e = given go x y e
  found_go text Nobody go x e = absurd cc
  found_go text Many go x e = absurd cc

  sought_go : (b : Bool) (text : List ℕ) (go : Dbref → Play) (x : Dbref) → cond b (Some nothing) (found_one (thing_found (scenery_of w.objects) a.player text)) ≡ Some x →
      cond b (go nothing w) (object_chosen (command_over d) text go (thing_found (scenery_of w.objects) a.player text) w) ≡ go x w
  sought_go true text go x e = given go x nothing e
  sought_go false text go x e = found_go text (thing_found (scenery_of w.objects) a.player text) go x e

  named_go : (text : List ℕ) (o : Option Dbref) (go : Dbref → Play) (x : Dbref) → o ≡ Some x → named_player (command_over d) text go o w ≡ go x w
  named_go text None go x e = absurd cc
  named_go text (Some y) go x e = given go x y e

  meant_go : (want : Want) (text : List ℕ) (go : Dbref → Play) (x : Dbref) → meant_of a want text w.objects ≡ Some x → part_meant d a want text go w ≡ go x w
  unfolding name_judged object_sought finding finding_player reading either
  meant_go Nothing text go x e = given go x nothing e
  meant_go Text text go x e = given go x nothing e
  meant_go NewName text go x e = judged_go (is_name text) go x e
  meant_go Player text go x e = named_go text (player_named (scenery_of w.objects) text) go x e
  meant_go FoundWant text go x e = sought_go (is_empty text) text go x e
  meant_go Object text go x e = sought_go (is_empty text) text go x e
  meant_go ProgramWant text go x e = sought_go (is_empty text) text go x e

  fit_go : (shape : Shape) (args out : Arguments) (go : Arguments → Play) → fit_of shape args w ≡ Some out → with_fit d shape args go w ≡ go out w
  unfolding with_fit where_so reading either
  fit_go shape args out go e = at (are_fit shape args w) e
    where
      at : (b : Bool) → cond b (Some args) None ≡ Some out → cond b (go args w) (command_over d cant_be_done w) ≡ go out w
      at true e = ap (taken (λ (z : Arguments). go z w) (go out w)) e
      at false e = absurd cc

  parts_go : (shape : Shape) (left right : List ℕ) (go : Arguments → Play) (out : Arguments) → parts_of a shape left right w ≡ Some out → with_parts d a shape left right go w ≡ go out w
  unfolding with_parts
  parts_go shape left right go out e = first (meant_of a shape.first left w.objects) refl e
    where
      second : (x : Dbref) (o : Option Dbref) → meant_of a shape.second right w.objects ≡ o → option_and_then (λ y. fit_of shape (argued left x right y) w) o ≡ Some out →
          part_meant d a shape.second right (λ y. with_fit d shape (argued left x right y) go) w ≡ go out w
      second x None k e = absurd cc
      second x (Some y) k e = meant_go shape.second right (λ y. with_fit d shape (argued left x right y) go) y k ∙ fit_go shape (argued left x right y) out go e

      first : (o : Option Dbref) → meant_of a shape.first left w.objects ≡ o → option_and_then (λ x. option_and_then (λ y. fit_of shape (argued left x right y) w) (meant_of a shape.second right w.objects)) o ≡ Some out →
          part_meant d a shape.first left (λ x. part_meant d a shape.second right (λ y. with_fit d shape (argued left x right y) go)) w ≡ go out w
      first None k e = absurd cc
      first (Some x) k e = meant_go shape.first left (λ x. part_meant d a shape.second right (λ y. with_fit d shape (argued left x right y) go)) x k ∙ second x (meant_of a shape.second right w.objects) refl e

  arguments_go : (name : List ℕ) (shape : Shape) (text : List ℕ) (go : Arguments → Play) (out : Arguments) → arguments_of a shape text w ≡ Some out → with_arguments d a name shape text go w ≡ go out w
  unfolding with_arguments either
  arguments_go name shape text go out e = at (has_all_parts shape.form text) e
    where
      at : (b : Bool) → cond b (parts_of a shape (left_in shape.form text) (right_in shape.form text) w) None ≡ Some out →
          cond b (with_parts d a shape (left_in shape.form text) (right_in shape.form text) go w) (ended Done (incomplete d name) w) ≡ go out w
      at true e = parts_go shape (left_in shape.form text) (right_in shape.form text) go out e
      at false e = absurd cc

-- A command that is denied tells so.

module _ (d : ℕ) (a : Actor) (w : Live) (denial : Denial) where
  abbrev Tells : Live × Outcome → Type 0
  Tells r = r ≡ (refused d denial w, Done)

  abbrev Denied : Option Act → Type 0
  Denied act = option_and_then (verdict w.objects a) act ≡ Some denial

  tells_denied : (act : Act) (go : LiveChange) → Denied (Some act) → Tells (ended Done (asked a act (refused d) go) w)
  unfolding ended asked
  tells_denied act go e = ap (λ (o : Option Denial). (denial_answered o (refused d) go w, Done)) e

  plays_denied : (act : Act) (go : Play) → Denied (Some act) → Tells (asked a act (over_denied d) go w)
  unfolding ended asked
  plays_denied act go e = ap (λ (o : Option Denial). denial_answered o (over_denied d) go w) e

  -- where the world doesn't refuse it first
  where_tells : (test : Live → Bool) (text : List ℕ) (act : Act) (go : LiveChange) → (Denied (Some act) → Tells (ended Done go w)) → Denied (where_act (test w) act) → Tells (ended Done (where_so test (tell d text) go) w)
  unfolding ended where_so reading either
  where_tells test text act go k = at (test w)
    where
      at : (b : Bool) → Denied (where_act b act) → Tells (cond b (go w) (tell d text w), Done)
      at true e = k e
      at false e = absurd cc

  either_tells : (b : Bool) (text : List ℕ) (act : Act) (go : LiveChange) → (Denied (Some act) → Tells (ended Done go w)) → Denied (where_act b act) → Tells (ended Done (either b go (tell d text)) w)
  unfolding ended either
  either_tells true text act go k e = k e
  either_tells false text act go k e = absurd cc

  setting_tells : (x : Dbref) (o : Option Setting) → Denied (option_map (setting_act x) o) → Tells (ended Done (word_set d a x o) w)
  unfolding change_by_leave
  setting_tells x (Some setting) e = tells_denied (setting_act x setting) _ e
  setting_tells x None e = absurd cc

  property_tells : (x : Dbref) (path : List (List ℕ)) (value : List ℕ) (o : Option PropFault) → Denied (where_act (is_none o) (Write x path)) → Tells (ended Done (property_set d a x path value o) w)
  unfolding change_by_leave
  property_tells x path value None e = tells_denied (Write x path) _ e
  property_tells x path value (Some fault) e = absurd cc

  assign_tells : (b : Bool) (x : Dbref) (text : List ℕ) → Denied (cond b (where_act (is_none (path_fault (path_part text))) (Write x (segments_of (path_part text)))) (option_map (setting_act x) (setting_asked text))) →
      Tells (ended Done (cond b (property_set d a x (segments_of (path_part text)) (value_part text) (path_fault (path_part text))) (word_set d a x (setting_asked text))) w)
  assign_tells true x text e = property_tells x (segments_of (path_part text)) (value_part text) (path_fault (path_part text)) e
  assign_tells false x text e = setting_tells x (setting_asked text) e

  thing_tells : (name : List ℕ) → Denied (Some (NewThing a.player)) → Tells (ended Done (thing_made d a name) w)
  unfolding thing_made object_made reading ended
  thing_tells name e = tells_denied (NewThing a.player) _ e

  exit_tells : (name : List ℕ) (to : Dbref) → Denied (Some (NewExit (place_at a.player w) to)) → Tells (ended Done (exit_opened d a name to) w)
  unfolding exit_opened object_made reading ended
  exit_tells name to e = tells_denied (NewExit (place_at a.player w) to) _ e

  build_tells : (line : List ℕ) (command : BuildWord) (args : Arguments) → Denied (build_act command a args w) → Tells (build_done d a line command args w)
  unfolding build_done object_made link_set link_cleared name_set text_kept lock_set teleported recycled_by_command chowned assigned change_by_leave program_made program_edited program_listed program_run
  build_tells line Dig args e = tells_denied (NewRoom (dbref_of 0)) _ e
  build_tells line Create args e = thing_tells args.first.text e
  build_tells line Open args e = exit_tells args.first.text args.second.object e
  build_tells line Action args e = tells_denied (NewExit args.second.object nothing) _ e
  build_tells line Link args e = where_tells (is_linkable args.first.object) cant_be_done (LinkAct args.first.object args.second.object) _ (tells_denied _ _) e
  build_tells line Unlink args e = where_tells (is_linkable args.first.object) cant_be_done (LinkAct args.first.object nothing) _ (tells_denied _ _) e
  build_tells line Name args e = where_tells (may_be_called args.first.object args.second.text) bad_name (Rename args.first.object) _ (tells_denied _ _) e
  build_tells line (Set message) args e = tells_denied (Change args.first.object) _ e
  build_tells line Lock args e = tells_denied (Change args.first.object) _ e
  build_tells line Unlock args e = tells_denied (Change args.first.object) _ e
  build_tells line Teleport args e = tells_denied (Move args.first.object args.second.object) _ e
  build_tells line Recycle args e = tells_denied (RecycleAct args.first.object) _ e
  build_tells line Chown args e = tells_denied (SetOwner args.first.object args.second.object) _ e
  build_tells line Assign args e = assign_tells (has_colon args.second.text) args.first.object args.second.text e
  build_tells line Find args e = absurd cc
  build_tells line Program args e = plays_denied NewProgram _ e
  build_tells line Edit args e = plays_denied (EditAct args.first.object) _ e
  build_tells line ListWord args e = plays_denied (Change args.first.object) _ e
  build_tells line Run args e = plays_denied (Call args.first.object) _ e

  -- Keepers.

  end_tells : (o : Option Process) → Denied (option_map ending_act o) → Tells (ended Done (end_told d a o) w)
  end_tells None e = absurd cc
  end_tells (Some p) e = tells_denied (ending_act p) _ e

  tune_tells : (b : Bool) (go : Play) → Denied (where_act b Wizard) → Tells (cond b (asked a Wizard (over_denied d) go w) (ended Done (incomplete d (codes "@tune")) w))
  tune_tells true go e = plays_denied Wizard go e
  tune_tells false go e = absurd cc

  -- a player's name is asked of the world, and then the length of the password
  both_tells : (b c : Bool) (text more : List ℕ) (go : LiveChange) → (Denied (Some Wizard) → Tells (ended Done go w)) → Denied (where_act (b && c) Wizard) → Tells (cond b (cond c (go w) (tell d more w)) (tell d text w), Done)
  unfolding ended
  both_tells true true text more go k e = k e
  both_tells true false text more go k e = absurd cc
  both_tells false c text more go k e = absurd cc

  player_tells : (name word : List ℕ) → Denied (where_act (is_player_name w.objects name && is_password word) Wizard) → Tells (ended Done (player_made d a name word) w)
  unfolding player_made ended where_so reading either
  player_tells name word e = both_tells (is_player_name w.objects name) (is_password word) bad_name cant_be_done (asked a Wizard (refused d) (player_put d a name word)) (tells_denied Wizard (player_put d a name word)) e

  admin_tells : (q : Queue) (command : AdminWord) (args : Arguments) → Denied (admin_act q command args w) → Tells (admin_done q d a command args w)
  unfolding admin_done kill_told tune_done player_booted shouted password_changed change_by_leave either
  admin_tells q Processes args e = absurd cc
  admin_tells q Kill args e = end_tells (process_meant args.first.text q) e
  admin_tells q TuneWord args e = tune_tells (is_empty args.first.text || has_full args.first.text) _ e
  admin_tells q Boot args e = plays_denied Wizard _ e
  admin_tells q Wall args e = plays_denied Wizard _ e
  admin_tells q NewPlayer args e = player_tells args.first.text args.second.text e
  admin_tells q NewPassword args e = either_tells (is_password args.second.text) cant_be_done (Password args.first.object) _ (tells_denied _ _) e
  admin_tells q Dump args e = plays_denied Wizard _ e
  admin_tells q Shutdown args e = plays_denied Wizard _ e

  -- what `@kill` means, and that it ends nothing then

  kill_text : (text : List ℕ) (args : Arguments) → arguments_of a (admin_shape Kill) text w ≡ Some args → text ≡ args.first.text
  kill_text [] args e = absurd cc
  kill_text (b ∷ text) args e = ap (taken (λ (z : Arguments). z.first.text) (b ∷ text)) e

  end_none : (o : Option Process) → Denied (option_map ending_act o) → option_and_then (λ p. cond (may_end a w p) (Some p) None) o ≡ None
  end_none None e = refl
  end_none (Some p) e = ap (λ (o : Option Denial). cond (is_none o) (Some p) None) e

  none_ends : (q : Queue) (text : List ℕ) (command : AdminWord) (args : Arguments) → arguments_of a (admin_shape command) text w ≡ Some args → Denied (admin_act q command args w) → ended_by a q text w (Some command) ≡ None
  none_ends q text Kill args k e = ap (λ t. process_killed a q t w) (kill_text text args k) ∙ end_none (process_meant args.first.text q) e
  none_ends q text _ args k e = refl

-- Whole lines.

module _ (q : Queue) (d : ℕ) (a : Actor) (line : List ℕ) (w : Live) (denial : Denial) where
  abbrev Word : List ℕ
  Word = first_word (trimmed line)

  abbrev Rest : List ℕ
  Rest = trimmed (other_words (trimmed line))

  -- the line is refused, where that is what was played of it
  abbrev Refused : Live × Outcome → Type 0
  Refused p = Tells d a w denial (or_next (by_keeper q d a line) p) × (ended_behind a line q p ≡ q)

  refused_done : (p : Live × Outcome) → Tells d a w denial p → Refused p
  refused_done p t = subst Refused (sym t) (refl, refl)

  keeper_tells : (r : Live × Outcome) → Tells d a w denial r → Tells d a w denial (or_next (ended Done (tell d huh)) r)
  keeper_tells r t = subst (λ y. Tells d a w denial (or_next (ended Done (tell d huh)) y)) (sym t) refl

  refused_admin : (o : Option AdminWord) → looked_up admin_words Word ≡ o → option_and_then (verdict w.objects a) (by_admin q a Rest w o) ≡ Some denial → Refused (w, NotMine)
  unfolding by_keeper play_or_else admin_line by_table after_line line_ends
  refused_admin None k e = absurd cc
  refused_admin (Some command) k e = at (arguments_of a (admin_shape command) Rest w) refl e
    where
      at : (o : Option Arguments) → arguments_of a (admin_shape command) Rest w ≡ o → option_and_then (verdict w.objects a) (option_and_then (λ args. admin_act q command args w) o) ≡ Some denial → Refused (w, NotMine)
      at None m e = absurd cc
      at (Some args) m e =
          let says : Tells d a w denial (admin_line q d a line w) =
          subst (λ o. Tells d a w denial (with_command_word admin_shape (admin_done q d a) d a Word Rest o w)) (sym k)
          (subst (Tells d a w denial) (sym (arguments_go d a w Word (admin_shape command) Rest (admin_done q d a command) args m)) (admin_tells d a w denial q command args e)) in
          (keeper_tells (admin_line q d a line w) says, ap (λ o. option_map_or (λ (p : Process). without_process p.number q) o q) (ap (ended_by a q Rest w) k ∙ none_ends d a w denial q Rest command args m e))

  built : (o : Option BuildWord) → looked_up build_words Word ≡ o → option_and_then (verdict w.objects a) (by_build q a Word Rest w o) ≡ Some denial → Refused (with_command_word build_shape (build_done d a line) d a Word Rest o w)
  unfolding ended unchanged
  built None k e = refused_admin (looked_up admin_words Word) refl e
  built (Some command) k e = at (arguments_of a (build_shape command) Rest w) refl e
    where
      at : (o : Option Arguments) → arguments_of a (build_shape command) Rest w ≡ o → option_and_then (verdict w.objects a) (option_and_then (λ args. build_act command a args w) o) ≡ Some denial →
          Refused (with_arguments d a Word (build_shape command) Rest (build_done d a line command) w)
      at None m e = absurd cc
      at (Some args) m e =
          refused_done (with_arguments d a Word (build_shape command) Rest (build_done d a line command) w)
          (subst (Tells d a w denial) (sym (arguments_go d a w Word (build_shape command) Rest (build_done d a line command) args m)) (build_tells d a w denial line command args e))

play_none : (d : ℕ) (a : Actor) (line : List ℕ) (w : Live) → begins_with_sign line ≡ false → looked_up play_words (first_word (trimmed line)) ≡ None → play_line d a line w ≡ (w, NotMine)
unfolding play_line by_table ended unchanged
play_none d a [] w s e = refl
play_none d a (b ∷ line) w s e = at (b == 34) (b == 58) s
  where
    at : (q r : Bool) → (q || r) ≡ false → (cond q (said_by_sign d a Say (codes "say") (trimmed line)) (cond r (said_by_sign d a Pose (codes "pose") (trimmed line))
        (with_command_word play_shape (play_done d a (line_typed (b ∷ line))) d a (first_word (trimmed (b ∷ line))) (trimmed (other_words (trimmed (b ∷ line)))) (looked_up play_words (first_word (trimmed (b ∷ line))))))) w ≡ (w, NotMine)
    at true r s = absurd cc
    at false true s = absurd cc
    at false false s = ap (λ o. with_command_word play_shape (play_done d a (line_typed (b ∷ line))) d a (first_word (trimmed (b ∷ line))) (trimmed (other_words (trimmed (b ∷ line)))) o w) e

module _ (q : Queue) (d : ℕ) (a : Actor) (line : List ℕ) (w : Live) (denial : Denial) where
  commanded_refused : begins_with_sign line ≡ false → (o : Option PlayWord) → looked_up play_words (first_word (trimmed line)) ≡ o →
      option_and_then (verdict w.objects a) (by_play q a (first_word (trimmed line)) (trimmed (other_words (trimmed line))) w o) ≡ Some denial → Refused q d a line w denial (commanded d a line w)
  unfolding commanded play_or_else build_line by_table
  commanded_refused s (Some command) k e = absurd cc
  commanded_refused s None k e =
      subst (λ r. Refused q d a line w denial (or_next (build_line d a line) r)) (sym (play_none d a line w s k))
      (built q d a line w denial (looked_up build_words (first_word (trimmed line))) refl e)

  played_refused : line_verdict q a line w ≡ Some denial → Refused q d a line w denial (played d a line w)
  unfolding played reading
  played_refused e = at (begins_with_sign line) refl e
    where
      word : Option Act
      word = by_play q a (first_word (trimmed line)) (trimmed (other_words (trimmed line))) w (looked_up play_words (first_word (trimmed line)))

      unspoken : begins_with_sign line ≡ false → (o : Option ExitHit) → option_and_then (verdict w.objects a) (cond (is_some o) None word) ≡ Some denial → Refused q d a line w denial (through d a line o w)
      unspoken s (Some hit) e = absurd cc
      unspoken s None e = commanded_refused s (looked_up play_words (first_word (trimmed line))) refl e

      at : (s : Bool) → begins_with_sign line ≡ s → option_and_then (verdict w.objects a) (cond s None (cond (is_some (exit_for (scenery_of w.objects) a.player line)) None word)) ≡ Some denial →
          Refused q d a line w denial ((cond s (commanded d a line) (reading (λ v. exit_for (scenery_of v.objects) a.player line) (through d a line))) w)
      at true s e = absurd cc
      at false s e = unspoken s (exit_for (scenery_of w.objects) a.player line) e

-- A line in a world.

world_refuses : (d : ℕ) (player : Dbref) (line : List ℕ) (w : World) → CommandRefuses d player line w (in_world d player line w)
unfolding in_world typed play_or_else processes_after_line
world_refuses d player line w = at (line_verdict w.queue a line w.live) refl
  where
    a : Actor
    a = actor_of w.live.objects player

    at : (o : Option Denial) → line_verdict w.queue a line w.live ≡ o → Refuses o d w (in_world d player line w)
    at None e = tt
    at (Some denial) e =
        let h = played_refused w.queue d a line w.live denial e in
        ap (λ (r : Live × Outcome). followed_up d player r.1 (settled (record w { live = r.0; queue = processes_after_line d a line w.live w.queue }))) h.0
        ∙ ap (λ (queue : Queue). settled (record w { live = refused d denial w.live; queue = queue })) h.1

pub line_refused : (d : ℕ) (w : World) → LineRefused d w (first_line_done d (connection d w) w)
line_refused d w = line_so (CommandRefuses d) d (world_refuses d) w
