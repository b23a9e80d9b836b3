mod CountedOperations
mod ResolvedRows
mod StatementOperations
mod Tables
