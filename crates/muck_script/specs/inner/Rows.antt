-- Worked examples of the grammar and of a transcript, which the checker computes.
use Rattle.std.specs.Prelude.{◌≡◌, [], ◌∷◌, ◌++◌, refl, codes, Some, None, Ok, Err, replicate}
use Rattle.std.specs.Fmt.{digits}
use Rattle.muck_model.specs.Decimal.{decimal_of}
use Rattle.muck_script.specs.declared.act.Act.TheVariants.{Nothing, Open, Send, Close, Wait, Dump}
use Rattle.muck_links.specs.Lines.{line_most, lines}
use Rattle.muck_script.specs.Lines.{lines_of}
use Rattle.spec_live.specs.Objects.{object_in}
use Rattle.spec_live.specs.Stood.{stands_in, stilled}
use Rattle.spec_live.specs.Start.{first_objects, room_zero, player_one}
use Rattle.spec_live.specs.Output.{sent_lines, queue_most, bytes_of, sent_lines_bytes, line_sent, lines_sent, text_sent, output_taken, lines_taken}
use Rattle.spec_live.specs.Boards.{early_board, connection_opened, connection_closed, line_added, bytes_taken, told_one, leaving_one}
use Rattle.spec_live.specs.Lives.{change_followed, reading, either, unchanged, tell, leave}
use Rattle.spec_events.specs.World.{starting_world, world_booted}
use Rattle.spec_commands.specs.Replies.{goodbye}
use Rattle.spec_commands.specs.Talk.{welcome, at_login, quit, waits, player_parted, gone_away}
use Rattle.muck_queue.specs.Queues.{empty_queue, next_due, is_busy, reader, ended_tied}
use Rattle.spec_hooks.specs.Causes.{causes}
use Rattle.spec_events.specs.Hooked.{hooked, started_all}
use Rattle.spec_events.specs.Lines.{first_line_done, spoken}
use Rattle.spec_events.specs.Steps.{is_lawful, effect, next_ready, next_process}
use Rattle.muck_script.specs.Script.{act_of, script_of, script_most}
use Rattle.muck_script.specs.Story.{next_turn, turns, served, line_story, asked_dump, moment_later, event_told, transcript}

lines_row : lines_of (97 ∷ 10 ∷ 10 ∷ 98 ∷ []) ≡ (97 ∷ []) ∷ [] ∷ (98 ∷ []) ∷ []
lines_row = refl

ended_row : lines_of (97 ∷ 10 ∷ []) ≡ (97 ∷ []) ∷ []
ended_row = refl

empty_row : act_of [] ≡ Some Nothing
unfolding act_of
empty_row = refl

comment_row : act_of (codes "# open 1") ≡ Some Nothing
unfolding act_of
comment_row = refl

dump_row : act_of (codes "dump") ≡ Some Dump
unfolding act_of
dump_row = refl

dump_space_row : act_of (codes "dump ") ≡ None
unfolding act_of decimal_of
dump_space_row = refl

open_row : act_of (codes "open 256") ≡ Some (Open 256)
unfolding act_of decimal_of
open_row = refl

open_zero_row : act_of (codes "open 0") ≡ None
unfolding act_of decimal_of
open_zero_row = refl

open_above_row : act_of (codes "open 257") ≡ None
unfolding act_of decimal_of
open_above_row = refl

open_leading_row : act_of (codes "open 01") ≡ None
unfolding act_of decimal_of
open_leading_row = refl

open_space_row : act_of (codes "open 1 ") ≡ None
unfolding act_of decimal_of
open_space_row = refl

open_spaces_row : act_of (codes "open  1") ≡ None
unfolding act_of decimal_of
open_spaces_row = refl

open_what_row : act_of (codes "open") ≡ None
unfolding act_of decimal_of
open_what_row = refl

send_row : act_of (codes "send 1 \"hi  you ") ≡ Some (Send 1 (codes "\"hi  you "))
unfolding act_of decimal_of lines line_most
send_row = refl

send_empty_row : act_of (codes "send 1 ") ≡ Some (Send 1 [])
unfolding act_of decimal_of lines line_most
send_empty_row = refl

send_nothing_row : act_of (codes "send 1") ≡ None
unfolding act_of decimal_of
send_nothing_row = refl

-- bytes that aren't shown are dropped, and telnet commands
send_tab_row : act_of (codes "send 1 a" ++ 9 ∷ codes "b" ++ 200 ∷ 127 ∷ codes "c" ++ 13 ∷ []) ≡ Some (Send 1 (codes "abc"))
unfolding act_of decimal_of lines line_most
send_tab_row = refl

send_telnet_row : act_of (codes "send 1 a" ++ 255 ∷ 253 ∷ 3 ∷ codes "b" ++ 255 ∷ 250 ∷ codes "no" ++ 255 ∷ 240 ∷ codes "c" ++ 255 ∷ 255 ∷ codes "d") ≡ Some (Send 1 (codes "abcd"))
unfolding act_of decimal_of lines line_most
send_telnet_row = refl

-- a text that ends inside a telnet command has no line
send_inside_row : act_of (codes "send 1 look" ++ 255 ∷ []) ≡ Some Nothing
unfolding act_of decimal_of lines line_most
send_inside_row = refl

send_inside_choice_row : act_of (codes "send 1 look" ++ 255 ∷ 253 ∷ []) ≡ Some Nothing
unfolding act_of decimal_of lines line_most
send_inside_choice_row = refl

send_inside_long_row : act_of (codes "send 1 look" ++ 255 ∷ 250 ∷ codes "no" ++ 255 ∷ []) ≡ Some Nothing
unfolding act_of decimal_of lines line_most
send_inside_long_row = refl

send_full_row : act_of (codes "send 2 " ++ replicate 2048 97) ≡ Some (Send 2 (replicate 2048 97))
unfolding act_of decimal_of lines line_most
send_full_row = refl

-- what passes 2,048 bytes is cut
send_long_row : act_of (codes "send 2 " ++ replicate 2048 97 ++ 9 ∷ codes "b") ≡ Some (Send 2 (replicate 2048 97))
unfolding act_of decimal_of lines line_most
send_long_row = refl

close_row : act_of (codes "close 256") ≡ Some (Close 256)
unfolding act_of decimal_of
close_row = refl

close_zero_row : act_of (codes "close 0") ≡ None
unfolding act_of decimal_of
close_zero_row = refl

wait_row : act_of (codes "wait 86400") ≡ Some (Wait 86400)
unfolding act_of decimal_of
wait_row = refl

wait_zero_row : act_of (codes "wait 0") ≡ Some (Wait 0)
unfolding act_of decimal_of
wait_zero_row = refl

wait_above_row : act_of (codes "wait 86401") ≡ None
unfolding act_of decimal_of
wait_above_row = refl

wait_leading_row : act_of (codes "wait 01") ≡ None
unfolding act_of decimal_of
wait_leading_row = refl

wait_what_row : act_of (codes "wait") ≡ None
unfolding act_of decimal_of
wait_what_row = refl

other_row : act_of (codes "OPEN 1") ≡ None
unfolding act_of
other_row = refl

-- the first line outside is the second
script_row : script_of (codes "open 1" ++ 10 ∷ codes "send x" ++ 10 ∷ codes "open 2" ++ 10 ∷ []) ≡ Err 2
unfolding act_of decimal_of script_most
script_row = refl

whole_row : script_of (codes "open 1" ++ 10 ∷ 10 ∷ codes "send 1 x") ≡ Ok (Open 1 ∷ Nothing ∷ Send 1 (codes "x") ∷ [])
unfolding act_of decimal_of script_most lines line_most
whole_row = refl

-- a script of one connection
quit_row : transcript (Open 1 ∷ Send 1 (codes "quit") ∷ []) [] starting_world
    ≡ codes "1< Use: connect NAME PASSWORD, WHO or QUIT." ++ 10 ∷ codes "1< Come back later!" ++ 10 ∷ codes "1 closed" ++ 10 ∷ []
unfolding starting_world world_booted early_board connection_opened connection_closed line_added bytes_taken told_one leaving_one change_followed reading either unchanged tell leave goodbye welcome quit waits first_line_done player_parted empty_queue next_due is_busy reader ended_tied gone_away bytes_of sent_lines_bytes line_sent lines_sent text_sent output_taken lines_taken is_lawful effect next_ready next_process next_turn at_login sent_lines queue_most turns served line_story event_told digits asked_dump spoken hooked started_all causes stands_in stilled object_in first_objects room_zero player_one
quit_row = refl

-- nothing is written of a connection that the script closes, nor where there is none, nor of time that passes
closed_row : transcript (Open 1 ∷ Close 1 ∷ Close 1 ∷ Wait 5 ∷ []) [] starting_world ≡ codes "1< Use: connect NAME PASSWORD, WHO or QUIT." ++ 10 ∷ []
unfolding starting_world world_booted early_board connection_opened connection_closed line_added bytes_taken told_one leaving_one change_followed reading either unchanged tell leave goodbye welcome quit waits first_line_done player_parted empty_queue next_due is_busy reader ended_tied gone_away bytes_of sent_lines_bytes line_sent lines_sent text_sent output_taken lines_taken is_lawful effect next_ready next_process next_turn at_login sent_lines queue_most turns served line_story event_told digits asked_dump spoken hooked started_all causes stands_in stilled object_in first_objects room_zero player_one
closed_row = refl

-- it is so many seconds later, as far as seconds go
later_row : moment_later 5 (record starting_world { moment = 7 }) ≡ 12
unfolding starting_world world_booted
later_row = refl

last_row : moment_later 5 (record starting_world { moment = 18446744073709551613 }) ≡ 18446744073709551615
unfolding starting_world world_booted
last_row = refl
