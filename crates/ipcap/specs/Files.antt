-- What is read from and written to.
use Rattle.std.specs.Prelude.{ℕ, ◌≡◌, Bool, List, MatchResult, None, Option, Result, false, true}
use Rattle.std.specs.declared.io.Error.{Error}
use Rattle.ipcap.specs.Arguments.{is_standard}
use Rattle.ipcap.specs.declared.files.Reader.{Reader}
use Rattle.ipcap.specs.declared.files.Reader.TheVariants as reader
use Rattle.ipcap.specs.declared.files.Writer.{Writer}
use Rattle.ipcap.specs.declared.files.Writer.TheVariants as writer
use Rattle.ipcap.specs.declared.streams.Watched.{Watched}

-- it is standard input, and no file
abbrev pub reads_standard : {S F : Type 0} → Reader S F → Bool
reads_standard (reader.Standard stdin) = true
reads_standard (reader.File file) = false

-- it is standard output, and no file
abbrev pub writes_standard : {S F : Type 0} → Writer S F → Bool
writes_standard (writer.Standard stdout) = true
writes_standard (writer.File file) = false

-- what is so of standard input, or of the file
abbrev pub of_reader : {S F X : Type 0} → (S → X) → (F → X) → Reader S F → X
of_reader of_standard of_file (reader.Standard stdin) = of_standard stdin
of_reader of_standard of_file (reader.File file) = of_file file

-- what is so of standard output, or of the file
abbrev pub of_writer : {S F X : Type 0} → (S → X) → (F → X) → Writer S F → X
of_writer of_standard of_file (writer.Standard stdout) = of_standard stdout
of_writer of_standard of_file (writer.File file) = of_file file

-- what opening a name comes to: standard input, if the name stands for that, and otherwise a file
abbrev pub OpensReader : {S F : Type 0} → Option (List ℕ) → Result (Watched (Reader S F)) Error
    → Type 0
OpensReader name result = MatchResult result
    (λ reader. (reads_standard reader.inner ≡ is_standard name) × (reader.failure ≡ None))
    (λ e. is_standard name ≡ false)

-- the same of what is written to
abbrev pub OpensWriter : {S F : Type 0} → Option (List ℕ) → Result (Watched (Writer S F)) Error
    → Type 0
OpensWriter name result = MatchResult result
    (λ writer. (writes_standard writer.inner ≡ is_standard name) × (writer.failure ≡ None))
    (λ e. is_standard name ≡ false)
