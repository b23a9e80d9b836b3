mod Accepted
mod ChangedNames
mod CopiedLists
mod WrittenLists
