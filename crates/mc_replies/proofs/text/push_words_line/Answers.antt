use Rattle.std.proofs.Common.{◌++◌, codes, decimal, length}
use Rattle.mc_serial_spec.specs.Texts.{spaced_words, words_line}
use Rattle.mc_replies.proofs.Starts.{appends, line_of_three, starts_append, starts_on}
use Rattle.mc_replies.proofs.text.push_words_line.Goals as goal

pub returns-in_err-push_number-2-clause-kept : goal.returns-in_err-push_number-2-clause-kept
returns-in_err-push_number-2-clause-kept c =
    let answered = starts_append c.args.text.now.items _ c.extend_from_slice.new.list.items c.in_ok-extend_from_slice.ensures.items in
    let spaced_words = starts_on _ _ _ answered (starts_append _ _ c.extend_from_slice-2.new.list.items c.in_ok-extend_from_slice-2.ensures.items) in
    let keyed = starts_on _ _ _ spaced_words c.push_number.ensures.kept in
    let behind = starts_on _ _ _ keyed (starts_append _ _ c.extend_from_slice-3.new.list.items c.in_ok-extend_from_slice-3.ensures.items) in
    starts_on _ _ _ behind c.push_number-2.ensures.kept

pub returns-in_err-push_spaced-clause-kept : goal.returns-in_err-push_spaced-clause-kept
returns-in_err-push_spaced-clause-kept c =
    let answered = starts_append c.args.text.now.items _ c.extend_from_slice.new.list.items c.in_ok-extend_from_slice.ensures.items in
    let spaced_words = starts_on _ _ _ answered (starts_append _ _ c.extend_from_slice-2.new.list.items c.in_ok-extend_from_slice-2.ensures.items) in
    let keyed = starts_on _ _ _ spaced_words c.push_number.ensures.kept in
    let behind = starts_on _ _ _ keyed (starts_append _ _ c.extend_from_slice-3.new.list.items c.in_ok-extend_from_slice-3.ensures.items) in
    let counted = starts_on _ _ _ behind c.push_number-2.ensures.kept in
    starts_on _ _ _ counted c.push_spaced.ensures.kept

pub returns-clause-line : goal.returns-clause-line
returns-clause-line c =
    let old = c.args.text.now.items in
    let keyed = c.args.answer.now ++ codes " " ++ decimal c.args.key ++ codes " " in
    let counted = keyed ++ decimal (length c.args.words.now) in
    let numbers = spaced_words c.args.words.now in
    let key = line_of_three old c.args.answer.now (codes " ") (decimal c.args.key) (codes " ") c.extend_from_slice.new.list.items c.extend_from_slice-2.new.list.items c.push_number.new.text.items c.extend_from_slice-3.new.list.items c.in_ok-extend_from_slice.ensures.items c.in_ok-extend_from_slice-2.ensures.items c.in_ok-push_number.ensures.number c.in_ok-extend_from_slice-3.ensures.items in
    let count = appends old keyed c.extend_from_slice-3.new.list.items (decimal (length c.args.words.now)) c.push_number-2.new.text.items key c.in_ok-push_number-2.ensures.number in
    let all = appends old counted c.push_number-2.new.text.items numbers c.push_spaced.new.text.items count c.in_ok-push_spaced.ensures.numbers in
    appends old (counted ++ numbers) c.push_spaced.new.text.items (codes "\r\n") c.extend_from_slice-4.new.list.items all c.in_ok-extend_from_slice-4.ensures.items

pub returns-clause-kept : goal.returns-clause-kept
returns-clause-kept c = starts_append c.args.text.now.items (words_line c.args.answer.now c.args.key c.args.words.now) c.extend_from_slice-4.new.list.items (returns-clause-line c)
