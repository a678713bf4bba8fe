-- What the program does with its arguments.
use Rattle.std.specs.IoError.{error_kind}
use Rattle.std.specs.Prelude.{ℕ, ◌≡◌, ◌≢◌, ◌⊎◌, All, Bool, IfSome, List, []}
use Rattle.std.specs.Prelude.{Err, None, Ok, Option, Result, Some, codes, false, length, take, true}
use Rattle.std.specs.Prelude.{MatchResult, unwrap_or}
use Rattle.std.specs.declared.alloc.AllocError.{AllocError}
use Rattle.std.specs.declared.io.Error.{Error}
use Rattle.std.specs.declared.io.ErrorKind.TheVariants.{BrokenPipe, OutOfMemory}
use Rattle.clap.specs.Values.{kind_of}
use Rattle.clap.specs.Words.{HasKind, IsParsedFrom, app_of, fault_of, found_of, matches_of}
use Rattle.clap.specs.Words.{rows_of}
use Rattle.clap.specs.declared.builder.command.Command.{Command}
use Rattle.clap.specs.declared.error.Error as text
use Rattle.clap.specs.declared.error.kind.ErrorKind.TheVariants as kind
use Rattle.clap.specs.declared.parser.matches.ArgMatches.{ArgMatches}
use Rattle.packet_filter.specs.declared.reading.FilterError.{FilterError}
use Rattle.ipcap.specs.Arguments.{IsArguments, RefusesMatches, arguments_error_text, text_of}
use Rattle.ipcap.specs.Faults.{Says}
use Rattle.ipcap.specs.Options.{app_with, options}
use Rattle.ipcap.specs.Output.{Fails, IsOutcome, Writes}
use Rattle.ipcap.specs.Reassembled.{Memory}
use Rattle.ipcap.specs.Refusal.{refusal_lines}
use Rattle.ipcap.specs.Request.{IsFilter, IsNoFilter}
use Rattle.ipcap.specs.Status.{code_of}
use Rattle.ipcap.specs.Streams.{NoReadFails, NoWriteFails, Reports, pending, unlisted, unread}
use Rattle.ipcap.specs.declared.arguments.Arguments.{Arguments}
use Rattle.ipcap.specs.declared.arguments.ArgumentsError.{ArgumentsError}
use Rattle.ipcap.specs.declared.failure.Failure.{Failure}
use Rattle.ipcap.specs.declared.failure.Failure.TheVariants as failure
use Rattle.ipcap.specs.declared.input.Input.{Input}
use Rattle.ipcap.specs.declared.output.Output.{Output}
use Rattle.ipcap.specs.declared.program.Ended.{Ended}
use Rattle.ipcap.specs.declared.request.Request.{Request}
use Rattle.ipcap.specs.declared.status.Status.{Status}
use Rattle.ipcap.specs.declared.system.Asked.{Asked}
use Rattle.ipcap.specs.declared.system.Asked.TheVariants as asked_for

-- what failed, in words
abbrev pub failure_text : Failure → List ℕ
failure_text failure.Read = codes "a read failed"
failure_text failure.Write = codes "a write failed"
failure_text failure.Count = codes "there are more than 2^64 - 1 packets"

-- and why: what the last call returned that failed to read, or to write
abbrev pub reason_of : Failure → Option Error → Option Error → Option Error
reason_of failure.Read of_read of_write = of_read
reason_of failure.Write of_read of_write = of_write
reason_of failure.Count of_read of_write = None

-- the output is a pipe that nobody reads any more, as after `head`
abbrev pub IsUnread : Failure → Option Error → Type 0
IsUnread failure.Write (Some e) = error_kind e ≡ BrokenPipe
IsUnread of why = ⊥

-- the name of a file as it is shown: `-` if there is none
abbrev pub name_of : Option (List ℕ) → List ℕ
name_of name = take 327680 (unwrap_or name (codes "-"))

-- the program ends with this exit status, and has opened no file
abbrev pub unopened : {R W : Type 0} → ℕ → Ended R W
unopened code = record { code = Ok code; source = None; sink = None }

-- the request that arguments make
pub record IsRequest (arguments : Arguments) (request : Request) : Type 0 where
  pub mode : request.mode ≡ arguments.mode
  pub is_utc : request.is_utc ≡ arguments.is_utc
  pub limit : request.limit ≡ arguments.limit
  pub filter : IsFilter arguments.text.items request.filter

-- what packets are put together in, if they are: 32 slots, which no datagram has
abbrev pub IsFresh : Bool → Memory → Type 0
IsFresh false memory = memory ≡ None
IsFresh true None = ⊥
IsFresh true (Some slots) = (length slots ≡ 32) × All (λ slot. slot.id ≡ None) slots

-- The words have no fault, and the options that there are find these matches in them.
pub record IsCommandLine (words : List (List ℕ)) (matches : ArgMatches) : Type 0 where
  pub command : Command
  pub is_app : app_of command ≡ app_with options
  pub faultless : fault_of (app_with options) words ≡ []
  pub parsed : IsParsedFrom command matches
  pub found : rows_of (found_of matches) ≡ matches_of (app_with options) words

-- The options find no matches in the words: the error is of the kind of the first fault in them, as
-- which help and the version count too, or there was no memory.
abbrev pub HasNoMatches : List (List ℕ) → text.Error → Type 0
HasNoMatches words = HasKind (fault_of (app_with options) words)

-- the exit status then: 0 if the words ask for help or the version, 3 if the error is that there
-- was no memory, and otherwise 2
pub record HasCode (e : text.Error) (code : ℕ) : Type 0 where
  pub shown : (kind_of e ≡ kind.DisplayHelp) ⊎ (kind_of e ≡ kind.DisplayVersion) → code ≡ 0
  pub no_memory : kind_of e ≡ kind.OutOfMemory → code ≡ 3
  pub mistake : kind_of e ≢ kind.DisplayHelp → kind_of e ≢ kind.DisplayVersion
      → kind_of e ≢ kind.OutOfMemory → code ≡ 2

-- Why nothing comes of words, as this error says: there is no memory to read them, or the text on
-- them cannot be shown.
abbrev pub Stops : (List (List ℕ) → Result (Result ArgMatches text.Error) AllocError → Type 0)
    → (text.Error → Result (Unit {0}) Error → Type 0) → List (List ℕ) → Asked → Error → Type 0
Stops reads shows words asked why =
    ((e : AllocError) × reads words (Err e) × (error_kind why ≡ OutOfMemory)
    × (asked ≡ asked_for.Nothing))
    ⊎ ((e : text.Error) × reads words (Ok (Err e)) × shows e (Err why)
    × (asked ≡ asked_for.Text))

-- there is no memory to put packets together, as this error says, and nothing changes
pub record LacksMemory {R W E : Type 0} (reassembles : Bool) (input left : Input R)
    (old new : Output W) (old_errors new_errors : Output E) (e : Error) : Type 0 where
  pub wanted : reassembles ≡ true
  pub says : error_kind e ≡ OutOfMemory
  pub unread : left ≡ input
  pub unwritten : new ≡ old
  pub silent : new_errors ≡ old_errors

module _ {R W E : Type 0} (remaining : R → Option (List ℕ)) (contents : W → Option (List ℕ))
    (contents_of_errors : E → Option (List ℕ)) (read_failed : R → Type 0)
    (write_failed : W → Type 0) (error_failed : E → Type 0) (why_read : R → Option Error)
    (why_written : W → Option Error) (is_text : Error → List ℕ → Type 0) where
  -- a run ends with a status, whose code this is
  pub record EndsWith (request : Request) (memory : Memory) (input left : Input R)
      (old new : Output W) (old_errors new_errors : Output E) (code : ℕ) : Type 0 where
    pub status : Status
    pub is_code : code ≡ code_of status
    pub writes : IfSome (unlisted remaining input) (λ bytes. Writes contents contents_of_errors
        error_failed (IsOutcome request memory bytes) status old new old_errors new_errors)
    pub unfailed : NoReadFails read_failed input left
    pub unfailed_writes : NoWriteFails write_failed old new

  -- It fails, and the code is 3. Standard error gets a line on that, but none if nobody reads the
  -- output any more.
  pub record FailsWith (request : Request) (memory : Memory) (input left : Input R)
      (old new : Output W) (old_errors new_errors : Output E) (code : ℕ) : Type 0 where
    pub of : Failure
    pub why : Option Error
    pub is_why : why ≡ reason_of of (why_read left.source) (why_written new.sink)
    pub is_code : code ≡ 3
    pub mid : Output E
    pub fails : Fails remaining contents read_failed write_failed request memory of
        input left old new old_errors mid
    pub said : ¬ IsUnread of why → Says contents_of_errors error_failed is_text (failure_text of)
        why mid new_errors
    pub silent : IsUnread of why → new_errors ≡ mid

  -- a run from this input to this output has this exit status, and leaves them so
  abbrev pub Runs : Request → Memory → Input R → Input R → Output W → Output W → Output E
      → Output E → ℕ → Type 0
  Runs request memory input left old new old_errors new_errors code =
      EndsWith request memory input left old new old_errors new_errors code
      ⊎ FailsWith request memory input left old new old_errors new_errors code

  -- the same, with packets put together or not
  pub record RunsAnew (request : Request) (reassembles : Bool) (input left : Input R)
      (old new : Output W) (old_errors new_errors : Output E) (code : ℕ) : Type 0 where
    pub memory : Memory
    pub fresh : IsFresh reassembles memory
    pub runs : Runs request memory input left old new old_errors new_errors code

  -- the same, from this source to this sink
  pub record RunsFrom (request : Request) (reassembles : Bool) (source : R) (sink : W)
      (ended : Ended R W) (old_errors new_errors : Output E) : Type 0 where
    pub input : Input R
    pub left : Input R
    pub old : Output W
    pub new : Output W
    pub reads : (input.source ≡ source) × (unread input ≡ []) × (input.count ≡ 0)
    pub prints : (old.sink ≡ sink) × (pending old ≡ [])
    pub runs : MatchResult ended.code
        (RunsAnew request reassembles input left old new old_errors new_errors)
        (LacksMemory reassembles input left old new old_errors new_errors)
    pub leaves : (ended.source ≡ Some left.source) × (ended.sink ≡ Some new.sink)

  -- The text of arguments is no expression: standard error gets the lines on it, and the code is 2.
  -- No file is asked for.
  pub record RefusesText (text : List ℕ) (ended : Ended R W) (asked : Asked)
      (old_errors new_errors : Output E) : Type 0 where
    pub error : FilterError
    pub is_none : IsNoFilter text error
    pub said : Reports contents_of_errors error_failed old_errors new_errors
        (refusal_lines text error)
    pub ends : ended ≡ unopened 2
    pub asks : asked ≡ asked_for.Nothing

  -- The options that are given exclude each other, or the text is too long: standard error gets a
  -- line on that, and the code is 2. No file is asked for.
  pub record RefusesOptions (matches : ArgMatches) (ended : Ended R W) (asked : Asked)
      (old_errors new_errors : Output E) : Type 0 where
    pub error : ArgumentsError
    pub refused : RefusesMatches matches error
    pub said : Says contents_of_errors error_failed is_text (arguments_error_text error) None
        old_errors new_errors
    pub ends : ended ≡ unopened 2
    pub asks : asked ≡ asked_for.Nothing

  module _ (opens : Option (List ℕ) → Result R Error → Type 0)
      (creates : Option (List ℕ) → Result W Error → Type 0) (arguments : Arguments)
      (ended : Ended R W) (asked : Asked) (old_errors new_errors : Output E) where
    -- the input cannot be opened, and standard error gets the reason; no output is asked for
    pub record CannotOpen : Type 0 where
      pub e : Error
      pub opened : opens (text_of arguments.input) (Err e)
      pub said : Says contents_of_errors error_failed is_text (name_of (text_of arguments.input))
          (Some e) old_errors new_errors
      pub ends : ended ≡ unopened 2
      pub asks : asked ≡ asked_for.Input

    -- the output cannot be made, and standard error gets the reason; the input is left as it is
    pub record CannotCreate : Type 0 where
      pub source : R
      pub e : Error
      pub opened : opens (text_of arguments.input) (Ok source)
      pub created : creates (text_of arguments.output) (Err e)
      pub said : Says contents_of_errors error_failed is_text (name_of (text_of arguments.output))
          (Some e) old_errors new_errors
      pub ends : ended ≡ record { code = Ok 2; source = Some source; sink = None }
      pub asks : asked ≡ asked_for.Output

    -- both are opened, and a request is run
    pub record RunsOn (request : Request) : Type 0 where
      pub source : R
      pub sink : W
      pub opened : opens (text_of arguments.input) (Ok source)
      pub created : creates (text_of arguments.output) (Ok sink)
      pub runs : RunsFrom request arguments.reassembles source sink ended old_errors new_errors
      pub asks : asked ≡ asked_for.Output

    -- what comes of a request: a run, unless a file cannot be opened or made
    abbrev pub Opens : Request → Type 0
    Opens request = CannotOpen ⊎ (CannotCreate ⊎ RunsOn request)

    -- what comes of arguments, unless their text is no expression
    abbrev pub Answers : Type 0
    Answers = RefusesText arguments.text.items ended asked old_errors new_errors
        ⊎ ((request : Request) × IsRequest arguments request × Opens request)

  module _ (opens : Option (List ℕ) → Result R Error → Type 0)
      (creates : Option (List ℕ) → Result W Error → Type 0)
      (reads : List (List ℕ) → Result (Result ArgMatches text.Error) AllocError → Type 0)
      (shows : text.Error → Result (Unit {0}) Error → Type 0)
      (words : List (List ℕ)) (ended : Ended R W) (asked : Asked)
      (old_errors new_errors : Output E) where
    -- words with no matches: the text on them is shown, and nothing else comes of them
    pub record ShowsText : Type 0 where
      pub e : text.Error
      pub code : ℕ
      pub read : reads words (Ok (Err e))
      pub none : HasNoMatches words e
      pub is_code : HasCode e code
      pub shown : shows e (Ok tt)
      pub ends : ended ≡ unopened code
      pub asks : asked ≡ asked_for.Text
      pub silent : new_errors ≡ old_errors

    -- what comes of words that have matches
    pub record Follows : Type 0 where
      pub matches : ArgMatches
      pub read : reads words (Ok (Ok matches))
      pub is : IsCommandLine words matches
      pub answers : RefusesOptions matches ended asked old_errors new_errors
          ⊎ ((arguments : Arguments) × IsArguments matches arguments
          × Answers opens creates arguments ended asked old_errors new_errors)

    -- what comes of the words of a command line
    abbrev pub Obeys : Type 0
    Obeys = ShowsText ⊎ Follows
