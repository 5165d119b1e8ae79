-- The replies to one command more.
use Rattle.std.proofs.Common.{◌≡◌, ℕ, ◌+◌, ◌<◌, List, [], ◌∷◌, ◌++◌, length, take, drop, get_or, false, Option, Some, None, refl, ap, sym, ◌∙◌, arith, append-nil, append_assoc}
use Rattle.std.specs.Option.{is_some, option_and_then, option_map_or}
use Rattle.std.specs.Io.KnownBytes.{Appends, append_known}
use Rattle.std.proofs.KnownBytes.{Appends-kept}
use Rattle.std.proofs.lemmas.List.{take_more, drop_more, take-append-drop}
use Rattle.mc_io.specs.Device.{Extends}
use Rattle.mc_script.specs.declared.command.Command.{Command}
use Rattle.mc_driver.specs.declared.fault.RunFault.{RunFault}
use Rattle.mc_driver.specs.declared.fault.RunFault.TheVariants.{Config as Refused, Script, TooLong, Read, Write, Memory, Thread, Turns}
use Rattle.mc_driver.specs.Run.{IsReplyFault, IsServeFault}
use Rattle.mc_serial_spec.specs.Machine.{Machine}
use Rattle.mc_serial_spec.specs.Lines.{Outcome, serve, replies_to, after_all, is_done}

-- some commands and then others, where the run isn't stopped at the first ones
after_step : (found : Option Outcome) (commands more : List Command) (now : Machine)
    → option_and_then (λ served. after_all served.machine commands) found ≡ Some now
    → ((s : Outcome) → after_all s.machine commands ≡ Some now → after_all s.machine (commands ++ more) ≡ after_all now more)
    → option_and_then (λ served. after_all served.machine (commands ++ more)) found ≡ after_all now more
after_step None commands more now is then = cc
after_step (Some served) commands more now is then = then served is

pub after-append : (m now : Machine) (commands more : List Command) → after_all m commands ≡ Some now
    → after_all m (commands ++ more) ≡ after_all now more
after-append m now [] more is = let same : m ≡ now = cc in ap (λ (n : Machine). after_all n more) same
after-append m now (c ∷ commands) more is =
    after_step (serve m c) commands more now is (λ served rest. after-append served.machine now commands more rest)

replies_step : (found : Option Outcome) (commands more : List Command) (now : Machine)
    → option_and_then (λ served. after_all served.machine commands) found ≡ Some now
    → ((s : Outcome) → after_all s.machine commands ≡ Some now → replies_to s.machine (commands ++ more) ≡ replies_to s.machine commands ++ replies_to now more)
    → option_map_or (λ served. served.reply ++ replies_to served.machine (commands ++ more)) found []
    ≡ option_map_or (λ served. served.reply ++ replies_to served.machine commands) found [] ++ replies_to now more
replies_step None commands more now is then = cc
replies_step (Some served) commands more now is then =
    ap (λ text. served.reply ++ text) (then served is) ∙ sym (append_assoc served.reply (replies_to served.machine commands) (replies_to now more))

pub replies-append : (m now : Machine) (commands more : List Command) → after_all m commands ≡ Some now
    → replies_to m (commands ++ more) ≡ replies_to m commands ++ replies_to now more
replies-append m now [] more is = let same : m ≡ now = cc in ap (λ (n : Machine). replies_to n more) same
replies-append m now (c ∷ commands) more is =
    replies_step (serve m c) commands more now is (λ served rest. replies-append served.machine now commands more rest)

-- what was written, and then perhaps something
extends_from_appends : (old mid new : Option (List ℕ)) (text : List ℕ) → Appends old mid text → Extends mid new → Extends (append_known old text) new
extends_from_appends None mid new text wrote then = tt
extends_from_appends (Some xs) None new text wrote then = absurd wrote
extends_from_appends (Some xs) (Some ys) None text wrote then = absurd then
extends_from_appends (Some xs) (Some ys) (Some zs) text wrote then = (then.0, then.1 ∙ ap (λ bs. bs ++ then.0) wrote)

-- one command alone
done_alone : (found : Option Outcome) → is_some (option_and_then (λ (served : Outcome). after_all served.machine []) found) ≡ is_some found
done_alone None = refl
done_alone (Some served) = refl

module _ (m now : Machine) (commands : List Command) (i : ℕ) (other : Command) (inside : i < length commands)
    (so_far : after_all m (take i commands) ≡ Some now) where
  -- the machine after the first commands and the next, and all replies until then
  pub after_more : after_all m (take (i + 1) commands) ≡ after_all now (get_or commands i other ∷ [])
  after_more =
      ap (λ cs. after_all m cs) (take_more commands i other inside) ∙ after-append m now (take i commands) (get_or commands i other ∷ []) so_far

  pub replies_more : (served : Outcome) → serve now (get_or commands i other) ≡ Some served
      → replies_to m (take (i + 1) commands) ≡ replies_to m (take i commands) ++ served.reply
  replies_more served is =
      ap (λ cs. replies_to m cs) (take_more commands i other inside)
      ∙ replies-append m now (take i commands) (get_or commands i other ∷ []) so_far
      ∙ rw is (ap (λ text. replies_to m (take i commands) ++ text) (append-nil served.reply))

  -- the first commands, the next, and the rest
  all_split : commands ≡ take i commands ++ (get_or commands i other ∷ drop (i + 1) commands)
  all_split = sym (ap (λ rest. take i commands ++ rest) (sym (drop_more commands i other inside)) ∙ take-append-drop i commands)

  -- the run is stopped at the next one
  stopped_after : serve now (get_or commands i other) ≡ None → is_done m commands ≡ false
  stopped_after is =
      ap (λ cs. is_done m cs) all_split
      ∙ ap (λ found. is_some found) (after-append m now (take i commands) (get_or commands i other ∷ drop (i + 1) commands) so_far)
      ∙ rw is refl

  stopped_replies : serve now (get_or commands i other) ≡ None → replies_to m commands ≡ replies_to m (take i commands)
  stopped_replies is =
      ap (λ cs. replies_to m cs) all_split ∙ replies-append m now (take i commands) (get_or commands i other ∷ drop (i + 1) commands) so_far
      ∙ rw is (append-nil (replies_to m (take i commands)))

  -- a command without its reply ends the run of commands there
  pub ends_there : (old mid new : Option (List ℕ)) (f_old f_mid f_new : ℕ) (fault : RunFault)
      → Appends old mid (replies_to m (take i commands)) → f_mid ≡ f_old → IsReplyFault now (get_or commands i other) mid new f_mid f_new fault
      → IsServeFault m commands old new f_old f_new fault
  ends_there old mid new f_old f_mid f_new Write wrote quiet ends = (
    omega (arith, ends.0),
    record {
      count = i;
      within = inside;
      done = ap (λ found. is_some found) after_more ∙ done_alone (serve now (get_or commands i other)) ∙ ends.2;
      written = extends_from_appends old mid new (replies_to m (take i commands)) wrote ends.1;
    },
  )
  ends_there old mid new f_old f_mid f_new (Memory refused) wrote quiet ends = (
    ends.0 ∙ quiet,
    record {
      count = i;
      within = omega arith;
      done = rw so_far refl;
      written = Appends-kept old mid new (replies_to m (take i commands)) wrote ends.1;
    },
  )
  ends_there old mid new f_old f_mid f_new Turns wrote quiet ends = (
    ends.0 ∙ quiet,
    stopped_after ends.2,
    rw (stopped_replies ends.2) (Appends-kept old mid new (replies_to m (take i commands)) wrote ends.1),
  )
  ends_there old mid new f_old f_mid f_new (Refused number) wrote quiet ends = absurd ends
  ends_there old mid new f_old f_mid f_new (Thread unstarted) wrote quiet ends = absurd ends
  ends_there old mid new f_old f_mid f_new (Script number) wrote quiet ends = absurd ends
  ends_there old mid new f_old f_mid f_new TooLong wrote quiet ends = absurd ends
  ends_there old mid new f_old f_mid f_new Read wrote quiet ends = absurd ends
