mod MergedCounts
mod MemberNames
