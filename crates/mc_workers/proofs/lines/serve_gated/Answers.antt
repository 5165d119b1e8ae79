use Rattle.std.proofs.Common.{ℕ, List, ◌++◌, ap, sym, ◌∙◌}
use Rattle.mc_workers.proofs.ServedLines.{told}
use Rattle.mc_workers.proofs.lines.serve_gated.Goals as goal

pub returns-clause-adds : goal.returns-clause-adds
returns-clause-adds g c = record {
  reply = c.in_ok-reply.reply;
  serves = c.in_ok-reply.ensures.serves;
  added = c.in_ok-push_reply.ensures.line ∙ ap (λ (l : List ℕ). c.args.text.now.items ++ l) (sym (told c.args.command c.key_of.result c.in_ok-reply.reply c.key_of.ensures.key));
}
