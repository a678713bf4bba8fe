use Rattle.std.proofs.Common.{◌≡◌, ℕ, List, IfErr, IfOk, Result, Ok, Err, map, string_bytes, subst, true}
use Rattle.clap.specs.Words.{App, FailsBy, HasMatchesOf, IsParsedFrom, app_of, fault_of, is_simple_and_free}
use Rattle.clap.specs.declared.builder.command.Command.{Command}
use Rattle.clap.specs.declared.error.Error.{Error}
use Rattle.clap.specs.declared.parser.matches.ArgMatches.{ArgMatches}
use Rattle.ipcap.specs.Options.{app_with, options}
use Rattle.ipcap.specs.Program.{HasNoMatches, IsCommandLine}
use Rattle.ipcap.proofs.Options.{is_free-options, is_simple-options}
use Rattle.ipcap.proofs.arguments.read_words.Goals as goal

module _ (command : Command) (words : List (List ℕ)) (is : app_of command ≡ app_with options) where
  -- the words fail as these options say
  fails : (r : Result ArgMatches Error) → (is_simple_and_free (app_of command) ≡ true → FailsBy (fault_of (app_of command) words) r) → FailsBy (fault_of (app_with options) words) r
  fails r kinds = subst (λ (app : App). is_simple_and_free app ≡ true → FailsBy (fault_of app words) r) is kinds is_free-options

  line : (r : Result ArgMatches Error) → IfOk r (IsParsedFrom command) → IfOk r (HasMatchesOf (app_of command) words) → FailsBy (fault_of (app_with options) words) r → IfOk r (IsCommandLine words)
  line (Ok m) parsed has faultless =
      let found : HasMatchesOf (app_with options) words m = subst (λ (app : App). HasMatchesOf app words m) is has in
      record { command = command; is_app = is; faultless = faultless; parsed = parsed; found = (found is_simple-options).0 }
  line (Err e) parsed has has_kind = tt

  none_found : (r : Result ArgMatches Error) → FailsBy (fault_of (app_with options) words) r → IfErr r (HasNoMatches words)
  none_found (Ok m) faultless = tt
  none_found (Err e) has_kind = has_kind

pub returns : goal.returns
returns c =
    let own = c.in_ok-command.ensures in
    let read = c.try_get_matches_from.ensures in
    let words = map string_bytes c.args.words.now in
    let by = fails _ words own.options c.try_get_matches_from.result read.kinds in
    record {
      matches = line _ words own.options c.try_get_matches_from.result read.parsed read.matches by;
      none = none_found _ words own.options c.try_get_matches_from.result by;
    }
