use Rattle.std.proofs.Common.{◌≡◌, ◌++◌, drop}
use Rattle.ipcap.specs.Arguments.{texts_of, words_after}
use Rattle.ipcap.proofs.arguments.join_all.Given as goal

-- the words that are left make the text whole
abbrev pub invariant-loop-word : goal.invariant-loop-word
invariant-loop-word l = l.text.items ++ words_after l.has_begun (texts_of (drop l.word-index l.words)) ≡ l.initial.text.items ++ words_after l.initial.has_begun (texts_of l.words)
