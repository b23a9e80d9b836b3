mod AcceptedTexts
mod CopiedOperators
mod PlainDialects
mod PlainOperators
mod StatementDialects
