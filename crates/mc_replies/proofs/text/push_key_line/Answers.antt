use Rattle.std.proofs.Common.{codes, decimal}
use Rattle.mc_serial_spec.specs.Texts.{key_line}
use Rattle.mc_replies.proofs.Starts.{line_of_three, starts_append, starts_on}
use Rattle.mc_replies.proofs.text.push_key_line.Goals as goal

pub returns-clause-line : goal.returns-clause-line
returns-clause-line c =
    line_of_three c.args.text.now.items c.args.answer.now (codes " ") (decimal c.args.key) (codes "\r\n") c.extend_from_slice.new.list.items c.extend_from_slice-2.new.list.items c.push_number.new.text.items c.extend_from_slice-3.new.list.items
    c.in_ok-extend_from_slice.ensures.items c.in_ok-extend_from_slice-2.ensures.items c.in_ok-push_number.ensures.number c.in_ok-extend_from_slice-3.ensures.items

pub returns-clause-kept : goal.returns-clause-kept
returns-clause-kept c = starts_append c.args.text.now.items (key_line c.args.answer.now c.args.key) c.extend_from_slice-3.new.list.items (returns-clause-line c)

pub returns-in_err-push_number-clause-kept : goal.returns-in_err-push_number-clause-kept
returns-in_err-push_number-clause-kept c =
    let answered = starts_append c.args.text.now.items _ c.extend_from_slice.new.list.items c.in_ok-extend_from_slice.ensures.items in
    let spaced = starts_on _ _ _ answered (starts_append _ _ c.extend_from_slice-2.new.list.items c.in_ok-extend_from_slice-2.ensures.items) in
    starts_on _ _ _ spaced c.push_number.ensures.kept
