use Rattle.muck_script.proofs.Texts.{cut_text, first_ready}
use Rattle.muck_script.proofs.sending.cut.Goals as goal

pub returns : goal.returns
returns c =
    first_ready c.args.text.now c.next_line.result _ _ _ _
    (cut_text c.args.text.now _ _ _ c.in_ok-cutter.ensures c.in_ok-feed.ensures.ok c.in_ok-feed-2.ensures.ok)
    c.next_line.ensures
