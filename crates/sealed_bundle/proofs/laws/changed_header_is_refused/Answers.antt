use Rattle.sealed_bundle.proofs.Changes.{other_header, other_magic, other_length, other_digest}
use Rattle.sealed_bundle.proofs.laws.changed_header_is_refused.Goals as goal

pub returns-clause-any : goal.returns-clause-any
returns-clause-any _ = other_header

pub returns-clause-magic : goal.returns-clause-magic
returns-clause-magic _ = other_magic

pub returns-clause-length : goal.returns-clause-length
returns-clause-length _ = other_length

pub returns-clause-digest : goal.returns-clause-digest
returns-clause-digest _ = other_digest
