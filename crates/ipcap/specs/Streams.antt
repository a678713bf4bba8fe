-- What has been read, and what the lines are that a sink gets.
use Rattle.std.specs.Prelude.{ℕ, ◌≡◌, ◌+◌, ◌-◌, ◌^◌, ◌⊎◌, Bool, List, [], ◌++◌, Option, drop}
use Rattle.std.specs.Prelude.{if◌then◌else◌, length, take}
use Rattle.std.specs.Io.KnownBytes.{Appends, Consumes, prepend_known}
use Rattle.ipcap.specs.declared.input.Input.{Input}
use Rattle.ipcap.specs.declared.output.Output.{Output}

-- the bytes that are read and not yet listed
abbrev pub unread : {R : Type 0} → Input R → List ℕ
unread input = take input.len input.bytes

-- all bytes that are not yet listed: those, and what the source gives from here on
abbrev pub unlisted : {R : Type 0} → (R → Option (List ℕ)) → Input R → Option (List ℕ)
unlisted remaining input = prepend_known (unread input) (remaining input.source)

-- the source gave these bytes
pub record Reads {R : Type 0} (remaining : R → Option (List ℕ)) (old new : Input R)
    (got : List ℕ) : Type 0 where
  pub gave : Consumes (remaining old.source) (remaining new.source) got
  pub count : new.count ≡ old.count + length got

-- the source gave some bytes, and of all that were read these were taken
pub record Takes {R : Type 0} (remaining : R → Option (List ℕ)) (old new : Input R)
    (taken : List ℕ) : Type 0 where
  pub got : List ℕ
  pub reads : Reads remaining old new got
  pub takes : unread old ++ got ≡ taken ++ unread new

-- a read has failed, or 2^64 - 1 bytes have been read
abbrev pub CannotRead : {R : Type 0} → (R → Type 0) → Input R → Type 0
CannotRead has_failed input = has_failed input.source ⊎ (input.count ≡ 2 ^ 64 - 1)

-- No read has failed since. A call that ensures this passes over no read that fails.
abbrev pub NoReadFails : {R : Type 0} → (R → Type 0) → Input R → Input R → Type 0
NoReadFails has_failed old new = has_failed new.source → has_failed old.source

-- no write has failed since, nor a text that `write!` could not write
abbrev pub NoWriteFails : {W : Type 0} → (W → Type 0) → Output W → Output W → Type 0
NoWriteFails has_failed old new = has_failed new.sink → has_failed old.sink

-- the text that the sink has not yet got
abbrev pub pending : {W : Type 0} → Output W → List ℕ
pending output = drop output.passed output.text.items

-- this text was printed: of it, and of what was pending, the sink got the front
pub record Prints {W : Type 0} (contents : W → Option (List ℕ)) (old new : Output W)
    (text : List ℕ) : Type 0 where
  pub passed : List ℕ
  pub gets : Appends (contents old.sink) (contents new.sink) passed
  pub prints : pending old ++ text ≡ passed ++ pending new

-- a front of this text was printed
pub record PrintsFront {W : Type 0} (contents : W → Option (List ℕ)) (old new : Output W)
    (text : List ℕ) : Type 0 where
  pub front : List ℕ
  pub rest : List ℕ
  pub whole : text ≡ front ++ rest
  pub prints : Prints contents old new front

-- the sink got this text
abbrev pub Gets : {W : Type 0} → (W → Option (List ℕ)) → Output W → Output W → List ℕ → Type 0
Gets contents old new text = Appends (contents old.sink) (contents new.sink) text

-- the sink got a front of this text
pub record GetsFront {W : Type 0} (contents : W → Option (List ℕ)) (old new : Output W)
    (text : List ℕ) : Type 0 where
  pub front : List ℕ
  pub rest : List ℕ
  pub whole : text ≡ front ++ rest
  pub gets : Gets contents old new front

-- the sink got this text, or else a write failed after a front of it
abbrev pub Reports : {W : Type 0} → (W → Option (List ℕ)) → (W → Type 0) → Output W → Output W
    → List ℕ → Type 0
Reports contents has_failed old new text =
    Gets contents old new text ⊎ (has_failed new.sink × GetsFront contents old new text)

-- these bytes, if they are kept
abbrev pub kept_if : Bool → List ℕ → List ℕ
kept_if is bytes = if is then bytes else []
