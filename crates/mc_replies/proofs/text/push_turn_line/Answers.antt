use Rattle.std.proofs.Common.{◌≡◌, ◌∙◌, ◌++◌, [], ◌∷◌, ap, codes, List, ℕ}
use Rattle.mc_serial_spec.specs.Texts.{spaced_words, turn_line, ending_word}
use Rattle.mc_replies.proofs.Starts.{line_of_three, starts_append, starts_on}
use Rattle.mc_replies.proofs.text.push_turn_line.Goals as goal

pub returns-clause-line : goal.returns-clause-line
returns-clause-line c =
    let counts = c.args.counts in
    let numbers : List ℕ = spaced_words (counts.cleared ∷ counts.rescued ∷ counts.evicted ∷ counts.busy ∷ counts.locked ∷ []) in
    let told : c.extend_from_slice-2.new.list.items ≡ c.extend_from_slice.new.list.items ++ ending_word c.args.ending = c.in_ok-extend_from_slice-2.ensures.items ∙ ap (λ (word : List ℕ). c.extend_from_slice.new.list.items ++ word) c.word_of.ensures.word in
    line_of_three c.args.text.now.items (codes "TURN ") (ending_word c.args.ending) numbers (codes "\r\n") c.extend_from_slice.new.list.items c.extend_from_slice-2.new.list.items c.push_spaced.new.text.items c.extend_from_slice-3.new.list.items
    c.in_ok-extend_from_slice.ensures.items told c.in_ok-push_spaced.ensures.numbers c.in_ok-extend_from_slice-3.ensures.items

pub returns-clause-kept : goal.returns-clause-kept
returns-clause-kept c = starts_append c.args.text.now.items (turn_line c.args.ending c.args.counts) c.extend_from_slice-3.new.list.items (returns-clause-line c)

pub returns-in_err-push_spaced-clause-kept : goal.returns-in_err-push_spaced-clause-kept
returns-in_err-push_spaced-clause-kept c =
    let begun = starts_append c.args.text.now.items _ c.extend_from_slice.new.list.items c.in_ok-extend_from_slice.ensures.items in
    let told = starts_on _ _ _ begun (starts_append _ _ c.extend_from_slice-2.new.list.items c.in_ok-extend_from_slice-2.ensures.items) in
    starts_on _ _ _ told c.push_spaced.ensures.kept
