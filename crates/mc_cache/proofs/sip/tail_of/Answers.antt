use Rattle.std.proofs.Common.{◌≡◌, ℕ, suc, ◌+◌, ◌-◌, ◌%◌, ap, sym, ◌∙◌, arith, length, take_all, get_or}
use Rattle.std.specs.List.{fold}
use Rattle.std.specs.declared.hash.DefaultHasher.{DefaultHasher}
use Rattle.std.specs.Hash.DefaultHasher.{wrapping_add, with_byte, write_byte}
use Rattle.mc_cache.specs.Sip.{hasher_of}
use Rattle.mc_cache.proofs.SipWords.{byte_inside, byte_more}
use Rattle.mc_cache.proofs.sip.tail_of.Goals as goal

pub loop-place-init : goal.loop-place-init
loop-place-init c lanes begun count fits aligned so_far =
    let same : wrapping_add count (c.args.at - c.args.at) ≡ count = omega arith in
    ap (hasher_of lanes 0) same ∙ so_far

pub loop-place-preserved : goal.loop-place-preserved
loop-place-preserved c lanes begun count fits aligned so_far =
    let bytes = c.args.bytes.now in
    let at = c.args.at in
    let place = c.loop-place.place in
    let tail = c.loop-place.tail in
    let whole = c.requires.whole in
    let part = c.requires.part in
    let byte = get_or bytes place 0 in
    let k : ℕ = place - at in
    let here : place % 8 ≡ k = omega arith in
    let next : wrapping_add count (place + 1 - at) ≡ wrapping_add count (suc k) = omega arith in
    let before = c.loop-place.invariant lanes begun count fits aligned so_far in
    (λ i. hasher_of lanes (with_byte tail (here i) byte) (next i))
    ∙ (sym (byte_inside (hasher_of lanes 0 0) tail count k byte fits aligned (omega arith))
    ∙ (ap (λ (s : DefaultHasher). write_byte s byte) before ∙ sym (byte_more write_byte begun bytes place (omega arith))))

pub returns : goal.returns
returns c lanes begun count fits aligned so_far =
    let end : c.loop-place.place ≡ length c.args.bytes.now = omega arith in
    (λ i. hasher_of lanes c.loop-place.tail (wrapping_add count (sym end i - c.args.at)))
    ∙ (c.loop-place.invariant lanes begun count fits aligned so_far ∙ ap (fold write_byte begun) (take_all c.loop-place.place c.args.bytes.now (omega arith)))
